-- Cached tests.
use Rattle.std.specs.Prelude.{ℕ, Bool, true, false, List, ◌++◌, Option, Some, None, codes}
use Rattle.deftable.specs.declared.note.Stream.TheVariants as streams
use Rattle.deftable.specs.Table.{value_of}
use Rattle.ac_tree.specs.declared.statement.Message.TheVariants.{Checking, Results}
use Rattle.meaning.specs.Messages.{with_message}
use Rattle.meaning.specs.State.{State, with_note, with_variable, without_variable, How, Goes_on, Completed, Stopped, Cut, Run, Ends, then_run, ended, as_is}
use Rattle.meaning.specs.Asking.{Attempt, attempted, without_compiler}

-- A cached test: the name that its value is kept under, what is checked, the run that finds the value, and what is
-- printed of it. If the body continues, the name has its value, or is unset. (Autoconf's manual, "Caching Results")
pub record Test : Type 0 where
  pub name : List ℕ
  pub message : List ℕ
  pub body : State → Run
  pub shown : Option (List ℕ) → List ℕ

-- What is done if a test doesn't come to its end: its name is unset, and a cut is printed. (own)
abbrev pub broken : List ℕ → How → State → State
broken name Goes_on st = st
broken name Completed st = without_variable name st
broken name (Stopped status) st = without_variable name st
broken name Cut st = with_note streams.Out (codes "refused\n") (without_variable name st)

-- The run of a test, with that done. (own)
abbrev pub guarded : List ℕ → Run → Run
guarded name run = ended (broken name) run

-- The piece with which a test begins. (Autoconf's manual, "Printing Messages")
abbrev pub checking : List ℕ → State → State
checking message st = with_message Checking message st

-- The piece with which a test ends. (Autoconf's manual, "Printing Messages")
abbrev pub with_result : List ℕ → State → State
with_result text st = with_message Results text st

-- A test, given the value of its name: if the name is set, its value counts, and the body is not run. (Autoconf's
-- manual, "Caching Results")
abbrev pub test_by : Option (List ℕ) → Test → State → Run
test_by (Some value) t st = Ends Goes_on (with_result (codes "(cached) " ++ t.shown (Some value)) st)
test_by None t st = then_run (guarded t.name (t.body st)) (λ now. Ends Goes_on (with_result (t.shown (value_of now.vars t.name)) now))

-- A test. (Autoconf's manual, "Caching Results")
abbrev pub cached_test : Test → State → Run
cached_test t st = test_by (value_of st.vars t.name) t (checking t.message st)

-- A name set to a value, if there is one. (own)
abbrev pub with_value : List ℕ → Option (List ℕ) → State → State
with_value name None st = st
with_value name (Some value) st = with_variable name value st

-- The body of a test that consists of attempts. (own)
abbrev pub by_attempts : List ℕ → List Attempt → Option (List ℕ) → State → Run
by_attempts name attempts otherwise st = attempted as_is attempts otherwise st (λ value now. Ends Goes_on (with_value name value now))

-- A test in a statement: whether it can begin, which it can't if it needs a compiler and there is none, and what is done
-- with its value, a cached one too. (own)
pub record Row : Type 0 where
  pub test : Test
  pub ready : Bool
  pub after : Option (List ℕ) → State → State

-- The test begins if its name is set, or if it is ready. (own)
abbrev pub may_begin : Option (List ℕ) → Bool → Bool
may_begin None ready = ready
may_begin (Some value) ready = true

-- A test that begins, or a stop that prints no piece of the test. (Autoconf's manual, "Running the Compiler")
abbrev pub tested_by : Bool → Row → State → Run
tested_by true r st = then_run (cached_test r.test st) (λ now. Ends Goes_on (r.after (value_of now.vars r.test.name) now))
tested_by false r st = without_compiler as_is st

-- A test in a statement. (own)
abbrev pub tested : Row → State → Run
tested r st = tested_by (may_begin (value_of st.vars r.test.name) r.ready) r st
