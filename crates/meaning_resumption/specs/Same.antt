-- Tests that have no value to be saved, and get the same replies again. All of this is own.
use Rattle.std.specs.Prelude.{◌≡◌, ℕ, Bool, true, false, List, [], ◌∷◌, Option, Some, None}
use Rattle.cachefile.specs.Text.{saved_value}
use Rattle.deftable.specs.Table.{value_of}
use Rattle.ac_tree.specs.declared.tree.Subject.{Subject}
use Rattle.ac_tree.specs.declared.tree.Subject.TheVariants.{Nothing, Word, Asked}
use Rattle.ac_tree.specs.Script.{Script, Done, Then, Choice, Check, Cases, No_case, Case}
use Rattle.ac_tree.specs.Uses.{Uses, uses_of}
use Rattle.meaning.specs.State.{State, Scope, Goes_on, Run}
use Rattle.meaning.specs.Forms.{FormTest, form_name}
use Rattle.meaning.specs.Meaning.{effect, rounds_of, is_taken, meaning}
use Rattle.meaning_resumption.specs.Finished.{finish}
use Rattle.meaning_resumption.specs.Alone.{left_unset}
use Rattle.meaning_resumption.specs.Joint.{Pair, Joint, Past, Whole, joint_then, joint_one, joint_plain, test_in, begins_test, begins, scope_at, joint_rounds, checks, joint_cases}

-- One of two facts.
abbrev pub Chosen : Bool → Type 0 → Type 0 → Type 0
Chosen true A B = A
Chosen false A B = B

-- A fact about what follows a part, if both runs are past it.
abbrev pub AndThen : Joint → (Pair → Type 0) → Type 0
AndThen (Past taken pair) rest = rest pair
AndThen (Whole replies) rest = Unit {0}

-- If the first run completed the test of this name, and its value isn't saved, the second run takes the same replies in it.
abbrev pub SameOne : List ℕ → (State → Run) → Pair → Type 0
SameOne name part p =
    (finish (part p.first) p.replies).how ≡ Goes_on → saved_value name (value_of (finish (part p.first) p.replies).state.vars name) ≡ None
    → (finish (part p.second) p.again).taken ≡ (finish (part p.first) p.replies).taken

-- This holds of the tests of these names, which a part makes.
abbrev pub SameEach : List (List ℕ) → (State → Run) → Pair → Type 0
SameEach [] part p = Unit {0}
SameEach (name ∷ more) part p = SameOne name part p × SameEach more part p

-- This holds of the tests of a statement that may leave their names unset.
abbrev pub SameUse : Uses → (State → Run) → Pair → Type 0
SameUse uses part p = SameEach (left_unset uses) part p

-- This holds of a test, if there is one.
abbrev pub SameTest : Option FormTest → Pair → Type 0
SameTest None p = Unit {0}
SameTest (Some test) p = SameOne (form_name test.form) (begins_test (Some test)) p

-- This holds of the test at the beginning of a choice.
abbrev pub SameAt : Subject → Pair → Type 0
SameAt Nothing p = Unit {0}
SameAt (Word word) p = Unit {0}
SameAt (Asked q) p = SameTest (test_in q) p

-- This holds in each round.
abbrev pub SameRounds : List Subject → (Scope → Pair → Joint) → (Scope → Pair → Type 0) → Pair → Type 0
SameRounds [] go same p = Unit {0}
SameRounds (round ∷ more) go same p =
    (SameAt round p × AndThen (joint_one (begins round) p) (λ q. same (scope_at round q.first) q))
    × AndThen (joint_then (joint_one (begins round) p) (λ q. go (scope_at round q.first) q)) (SameRounds more go same)

unfoldable mutual
  -- A test that the first run completed, and whose value isn't saved, gets the same replies in the second run.
  pub SameAgain : Script → Pair → Type 0
  SameAgain Done p = Unit {0}
  SameAgain (Then declares e rest) p = SameUse (uses_of declares e) (effect e) p × AndThen (joint_plain e p) (SameAgain rest)
  SameAgain (Choice declares subject cases rest) p =
      SameRounds (rounds_of subject) (joint_cases cases) (SameCases cases) p
      × AndThen (joint_rounds (rounds_of subject) (joint_cases cases) p) (SameAgain rest)
  SameAgain (Check message name commands rest) p =
      SameOne name (checks message name (meaning commands)) p × AndThen (joint_one (checks message name (meaning commands)) p) (SameAgain rest)

  -- The same in the first case that is taken.
  pub SameCases : Cases → Scope → Pair → Type 0
  SameCases No_case scope p = Unit {0}
  SameCases (Case when body more) scope p = Chosen (is_taken when scope p.first.vars) (SameAgain body p) (SameCases more scope p)
