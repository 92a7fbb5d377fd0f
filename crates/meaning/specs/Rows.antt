-- The rows of tests: searches for programs, and tests of forms.
use Rattle.std.specs.Prelude.{ℕ, Bool, true, false, List, [], ◌∷◌, ◌++◌, Option, Some, None, codes, map, unwrap_or}
use Rattle.crew_jobs.specs.Probe.{path_of}
use Rattle.meaning.specs.State.{State, value_or_empty, with_variable}
use Rattle.meaning.specs.Asking.{Attempt}
use Rattle.meaning.specs.Tests.{Row, by_attempts}
use Rattle.meaning.specs.Directories.{directories_of}
use Rattle.meaning.specs.Forms.{FormTest, form_attempts, form_name, form_used, may_start, value_in}

-- A program that is looked for: the variable that it sets, the name of its test, the program, its value if it is found
-- (the program's full name, if no other is given) and if it isn't. (Autoconf's manual, "Generic Programs")
pub record Search : Type 0 where
  pub variable : List ℕ
  pub name : List ℕ
  pub program : List ℕ
  pub found : Option (List ℕ)
  pub otherwise : Option (List ℕ)

-- A test: a search for a program, or the test of a form. `own` is the variable's own value, if it counts. (own)
pub data TestKind : Type 0 where
  Program : (search : Search) (own : Option (List ℕ)) → TestKind
  Formed : (test : FormTest) → TestKind

-- A value if this is true. (own)
abbrev pub value_if : Bool → List ℕ → Option (List ℕ)
value_if true value = Some value
value_if false value = None

-- A program is looked for in a directory. (Autoconf's manual, "Generic Programs")
abbrev pub attempt_in : Search → List ℕ → Attempt
attempt_in s directory =
    record { job = Some (path_of (directory ++ s.program)); ends_on = true; value = Some (unwrap_or s.found (directory ++ s.program)) }

-- The same in several. (Autoconf's manual, "Generic Programs")
abbrev pub attempts_in : Search → List (List ℕ) → List Attempt
attempts_in s directories = map (attempt_in s) directories

-- If the variable's own value counts, no directory is tried. (Autoconf's manual, "Generic Programs")
abbrev pub program_attempts : Option (List ℕ) → Search → List (List ℕ) → List Attempt
program_attempts None s directories = attempts_in s directories
program_attempts (Some value) s directories = []

-- The first value that there is. (own)
abbrev pub first_of : Option (List ℕ) → Option (List ℕ) → Option (List ℕ)
first_of None otherwise = otherwise
first_of (Some value) otherwise = Some value

-- `no` for an empty text. (Autoconf's manual, "Printing Messages")
abbrev pub text_or_no : List ℕ → List ℕ
text_or_no [] = codes "no"
text_or_no (b ∷ bs) = b ∷ bs

-- The name of the test. (Autoconf's manual, "Cache Variable Names")
abbrev pub name_of : TestKind → List ℕ
name_of (Program s own) = s.name
name_of (Formed t) = form_name t.form

-- What is checked. (Autoconf's manual, "Printing Messages")
abbrev pub message_of : TestKind → List ℕ
message_of (Program s own) = codes "for " ++ s.program
message_of (Formed t) = t.form.message

-- The children of the test. (Autoconf's manual, "Generic Programs", and "Generic Headers" to "Library Files")
abbrev pub attempts_of : TestKind → State → List Attempt
attempts_of (Program s own) st = program_attempts own s (directories_of (value_or_empty st (codes "PATH")))
attempts_of (Formed t) st = form_attempts t.form (value_in t.given st) st.vars st.defs

-- The value if no child ends the test. (Autoconf's manual, "Generic Programs")
abbrev pub otherwise_of : TestKind → Option (List ℕ)
otherwise_of (Program s own) = first_of own s.otherwise
otherwise_of (Formed t) = Some t.form.otherwise

-- What is printed of the value. (Autoconf's manual, "Printing Messages")
abbrev pub shown_of : TestKind → Option (List ℕ) → List ℕ
shown_of (Program s own) value = text_or_no (unwrap_or value [])
shown_of (Formed t) value = unwrap_or value []

-- The test can begin: it needs no compiler, or there is one. (own)
abbrev pub is_ready : TestKind → State → Bool
is_ready (Program s own) st = true
is_ready (Formed t) st = may_start (form_attempts t.form (value_in t.given st) st.vars st.defs)

-- What is done with the value: a program's variable gets it, or is set to the empty text; of a form, what the form gives.
-- (Autoconf's manual, "Generic Programs", and "Generic Headers" to "Library Files")
abbrev pub after_of : TestKind → Option (List ℕ) → State → State
after_of (Program s own) value st = with_variable s.variable (unwrap_or value []) st
after_of (Formed t) value st = form_used t.form value st

-- The test, as a statement has it. (own)
abbrev pub row_of : TestKind → State → Row
row_of kind st = record {
  test = record { name = name_of kind; message = message_of kind; body = by_attempts (name_of kind) (attempts_of kind st) (otherwise_of kind); shown = shown_of kind };
  ready = is_ready kind st;
  after = after_of kind;
}
