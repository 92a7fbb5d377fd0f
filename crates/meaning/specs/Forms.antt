-- What the form of a test means: its name, its attempts, and what is done with its value.
use Rattle.std.specs.Prelude.{ℕ, Bool, true, false, not, ◌&&◌, List, [], ◌∷◌, ◌++◌, Option, Some, None, codes, map, option_map, unwrap_or, is_some, bytes_eq, if◌then◌else◌}
use Rattle.crew_jobs.specs.declared.job.Job.{Job}
use Rattle.crew_jobs.specs.Probe.{Compile, Link, job_of}
use Rattle.conftest_source.specs.Sources.{default_includes, header_source, function_source, program_source}
use Rattle.deftable.specs.Table.{value_of, with_entry}
use Rattle.shellword.specs.declared.part.Part.{Part}
use Rattle.shellword.specs.Value.{word_value}
pub use Rattle.ac_tree.specs.Definitions.{symbol_part}
pub use Rattle.ac_tree.specs.TestNames.{shell_part}
use Rattle.test_forms.specs.declared.form.Snippet.{Snippet}
use Rattle.test_forms.specs.declared.form.Snippet.TheVariants.{Header, Function, Library, Body}
use Rattle.test_forms.specs.declared.form.TryForm.{TryForm}
use Rattle.test_forms.specs.declared.form.Says.{Says}
use Rattle.test_forms.specs.declared.form.Says.TheVariants.{Yes, AllButNo}
use Rattle.test_forms.specs.declared.form.Gives.{Gives}
use Rattle.test_forms.specs.declared.form.Gives.TheVariants.{Nothing, Have, HaveOrNot, AddsLibrary, AddsValue}
use Rattle.test_forms.specs.Form.{TestForm}
use Rattle.meaning.specs.State.{State, value_or_empty, with_variable, with_definition}
use Rattle.meaning.specs.Asking.{Attempt}

-- Names and values. (own)
abbrev pub Table : Type 0
Table = List (List ℕ × List ℕ)

-- A test in a statement: its form, and the includes or the other libraries that it was given. (own)
pub record FormTest : Type 0 where
  pub form : TestForm
  pub given : Option (List Part)

-- The name of the test. (Autoconf's manual, "Cache Variable Names")
abbrev pub form_name : TestForm → List ℕ
form_name f = codes "ac_cv_" ++ shell_part f.key

-- The value of a text, if there is one. (POSIX shell, "Word Expansions")
abbrev pub value_in : Option (List Part) → State → Option (List ℕ)
value_in text st = option_map (λ t. word_value t st.vars) text

-- ---- attempts

-- The includes that were given, or the default ones. (Autoconf's manual, "Default Includes")
abbrev pub includes_in : Option (List ℕ) → List ℕ
includes_in None = default_includes
includes_in (Some text) = text

-- What is linked after a library: the other libraries that were given, and LIBS. (Autoconf's manual, "Library Files")
abbrev pub after_in : Option (List ℕ) → Table → List ℕ
after_in given vars = unwrap_or given [] ++ codes " " ++ unwrap_or (value_of vars (codes "LIBS")) []

-- The value of LIBS with this library first. (Autoconf's manual, "Library Files")
abbrev pub libs_with : List ℕ → Option (List ℕ) → Table → List ℕ
libs_with library given vars = codes "-l" ++ library ++ codes " " ++ after_in given vars

-- The job of a snippet, with its number; none if there is no compiler. LIBS has a library first that is tried, in the job
-- alone. (Autoconf's manual, "Generic Headers" to "Generic Types", and "Library Files")
abbrev pub snippet_job : Snippet → List ℕ → Option (List ℕ) → ℕ → Table → Table → Option Job
snippet_job Header entry given number vars defs = job_of (Compile (header_source (includes_in given) entry)) number vars defs
snippet_job Function entry given number vars defs = job_of (Link (function_source entry)) number vars defs
snippet_job (Library library) entry given number vars defs =
    job_of (Link (function_source entry)) number (with_entry vars (codes "LIBS") (libs_with library given vars)) defs
snippet_job (Body text) entry given number vars defs = job_of (Compile (program_source (includes_in given) text)) number vars defs

-- A try, as an attempt. (own)
abbrev pub attempt_of_try : List ℕ → Option (List ℕ) → Table → Table → TryForm → Attempt
attempt_of_try entry given vars defs t = record { job = snippet_job t.snippet entry given 0 vars defs; ends_on = t.ends_on; value = Some t.value }

-- The attempts of a form. (own)
abbrev pub form_attempts : TestForm → Option (List ℕ) → Table → Table → List Attempt
form_attempts f given vars defs = map (attempt_of_try f.entry given vars defs) f.tries

-- The test can begin: there is a job for its first attempt, or no attempt. (own)
abbrev pub may_start : List Attempt → Bool
may_start [] = true
may_start (a ∷ more) = is_some a.job

-- ---- values

-- The value is `yes`. (Autoconf's manual, "Caching Results")
abbrev pub is_yes : Option (List ℕ) → Bool
is_yes None = false
is_yes (Some value) = bytes_eq value (codes "yes")

-- A search for libraries has found one: its value is set, and is not `no`. (Autoconf's manual, "Library Files")
abbrev pub is_linked : Option (List ℕ) → Bool
is_linked None = false
is_linked (Some value) = not (bytes_eq value (codes "no"))

-- The value says that the test has found what it looks for. (Autoconf's manual, "Caching Results" and "Library Files")
abbrev pub says_found : Says → Option (List ℕ) → Bool
says_found Yes value = is_yes value
says_found AllButNo value = is_linked value

-- A name is defined as 1 if this is true. (own)
abbrev pub defined_if : Bool → List ℕ → State → State
defined_if true name st = with_definition name (codes "1") st
defined_if false name st = st

-- `1` or `0`. (Autoconf's manual, "Generic Declarations")
abbrev pub digit_of : Bool → List ℕ
digit_of found = if found then codes "1" else codes "0"

-- A text and a blank are put before the value of LIBS. (Autoconf's manual, "Library Files")
abbrev pub with_library : List ℕ → State → State
with_library text st = with_variable (codes "LIBS") (text ++ codes " " ++ value_or_empty st (codes "LIBS")) st

-- A library that has the function: `HAVE_LIB` and its name is defined, and then LIBS gets it. (Autoconf's manual, "Library
-- Files")
abbrev pub with_library_if : Bool → List ℕ → State → State
with_library_if true library st = with_library (codes "-l" ++ library) (with_definition (codes "HAVE_LIB" ++ symbol_part library) (codes "1") st)
with_library_if false library st = st

-- LIBS gets what a search found, unless no library is needed. (Autoconf's manual, "Library Files")
abbrev pub with_linked : Option (List ℕ) → State → State
with_linked None st = st
with_linked (Some value) st =
    if is_linked (Some value) && not (bytes_eq value (codes "none required")) then with_library value st else st

-- What is done with a value. (Autoconf's manual, "Generic Headers" to "Generic Types", and "Library Files")
abbrev pub with_given : Gives → Bool → Option (List ℕ) → State → State
with_given Nothing found value st = st
with_given (Have what) found value st = defined_if found (codes "HAVE_" ++ symbol_part what) st
with_given (HaveOrNot what) found value st = with_definition (codes "HAVE_" ++ symbol_part what) (digit_of found) st
with_given (AddsLibrary library) found value st = with_library_if found library st
with_given AddsValue found value st = with_linked value st

-- The same of a form. (own)
abbrev pub form_used : TestForm → Option (List ℕ) → State → State
form_used f value st = with_given f.gives (says_found f.says value) value st
