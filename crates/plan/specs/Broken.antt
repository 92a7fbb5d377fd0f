-- What is done at the end of a run that a plan makes, if tests are open there.
use Rattle.std.specs.Prelude.{ℕ, List, [], ◌∷◌}
use Rattle.meaning.specs.State.{State, without_variable, How, Goes_on, Completed, Stopped, Cut, Run, ended}
use Rattle.meaning.specs.Tests.{broken}

-- The names of these tests are unset, the innermost first. (own)
abbrev pub unset_all : List (List ℕ) → State → State
unset_all [] st = st
unset_all (name ∷ outer) st = unset_all outer (without_variable name st)

-- The same, if the run is cut short: each test prints that too. (own)
abbrev pub refused_all : List (List ℕ) → State → State
refused_all [] st = st
refused_all (name ∷ outer) st = refused_all outer (broken name Cut st)

-- What is done with a state if the run ends inside these tests, each of which is broken. (own)
abbrev pub broken_all : List (List ℕ) → How → State → State
broken_all tests Goes_on st = st
broken_all tests Completed st = unset_all tests st
broken_all tests (Stopped status) st = unset_all tests st
broken_all tests Cut st = refused_all tests st

-- A run inside these tests. (own)
abbrev pub guarded_all : List (List ℕ) → Run → Run
guarded_all tests run = ended (broken_all tests) run
