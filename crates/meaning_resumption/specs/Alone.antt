-- Names that are tested once. All of this is own.
use Rattle.std.specs.Prelude.{ℕ, List, [], ◌∷◌, ◌++◌, if◌then◌else◌}
use Rattle.ac_tree.specs.declared.tree.Subject.{Subject}
use Rattle.ac_tree.specs.declared.tree.Subject.TheVariants.{Nothing, Word, Asked}
use Rattle.ac_tree.specs.Resumable.{Among, tests_at}
use Rattle.ac_tree.specs.Script.{Script, Done, Then, Choice, Check, Cases, No_case, Case}
use Rattle.ac_tree.specs.Uses.{Uses, uses_of, uses_asked}
use Rattle.meaning.specs.Meaning.{rounds_of}

-- The names that rounds test, and their cases in each of them.
abbrev pub tested_rounds : List Subject → List (List ℕ) → List (List ℕ)
tested_rounds [] inside = []
tested_rounds (round ∷ more) inside = (tests_at round ++ inside) ++ tested_rounds more inside

abbrev mutual
  -- The names that statements test; commands of AC_CACHE_CHECK test none.
  pub tested_in : Script → List (List ℕ)
  tested_in Done = []
  tested_in (Then declares effect rest) = (uses_of declares effect).tests ++ tested_in rest
  tested_in (Choice declares subject cases rest) = tested_rounds (rounds_of subject) (tested_cases cases) ++ tested_in rest
  tested_in (Check message name commands rest) = name ∷ tested_in rest

  -- The names that the statements of all cases test.
  pub tested_cases : Cases → List (List ℕ)
  tested_cases No_case = []
  tested_cases (Case when body more) = tested_in body ++ tested_cases more

-- The name is none of these.
abbrev pub IsNone : List ℕ → List (List ℕ) → Type 0
IsNone name names = Among name names → ⊥

-- None of these names is tested later: further on among them, or after them.
abbrev pub AreNone : List (List ℕ) → List (List ℕ) → Type 0
AreNone [] later = Unit {0}
AreNone (name ∷ more) later = IsNone name (more ++ later) × AreNone more later

-- The names that tests may leave unset.
abbrev pub left_unset : Uses → List (List ℕ)
left_unset uses = if uses.alone then uses.tests else []

-- A test that may leave its name unset is of a name that is not tested later.
abbrev pub AloneUse : Uses → List (List ℕ) → Type 0
AloneUse uses later = AreNone (left_unset uses) later

-- So is that of a question.
abbrev pub AloneAt : Subject → List (List ℕ) → Type 0
AloneAt Nothing later = Unit {0}
AloneAt (Word word) later = Unit {0}
AloneAt (Asked question) later = AloneUse (uses_asked question) later

-- This holds of the beginning of each round, and of its cases, with what is tested after them.
abbrev pub AloneRounds : List Subject → List (List ℕ) → (List (List ℕ) → Type 0) → List (List ℕ) → Type 0
AloneRounds [] inside holds later = Unit {0}
AloneRounds (round ∷ more) inside holds later =
    (AloneAt round (inside ++ (tested_rounds more inside ++ later)) × holds (tested_rounds more inside ++ later))
    × AloneRounds more inside holds later

abbrev mutual
  -- The name of each AC_CACHE_CHECK, and of each other test that may leave it unset, such as that of a program, is tested
  -- once: by no later statement, and in no later round of a list whose actions it is in. `later` are the names that are
  -- tested after the statements.
  pub Alone : Script → List (List ℕ) → Type 0
  Alone Done later = Unit {0}
  Alone (Then declares effect rest) later = AloneUse (uses_of declares effect) (tested_in rest ++ later) × Alone rest later
  Alone (Choice declares subject cases rest) later =
      AloneRounds (rounds_of subject) (tested_cases cases) (AloneIn cases) (tested_in rest ++ later) × Alone rest later
  Alone (Check message name commands rest) later = IsNone name (tested_in rest ++ later) × Alone rest later

  -- The same of the statements of all cases.
  pub AloneIn : Cases → List (List ℕ) → Type 0
  AloneIn No_case later = Unit {0}
  AloneIn (Case when body more) later = Alone body later × AloneIn more later
