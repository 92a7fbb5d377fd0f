-- Laws of cached tests: what they leave in the variables.
use Rattle.std.specs.Prelude.{◌≡◌, ℕ, List, ◌++◌, Some, None, codes}
use Rattle.deftable.specs.Table.{value_of, without_entry}
use Rattle.shellword.specs.declared.part.Part.{Part}
use Rattle.ac_tree.specs.Script.{Script}
use Rattle.meaning.specs.State.{State, Goes_on, Run, Ends}
use Rattle.meaning.specs.Tests.{Test, cached_test, checking, with_result, Row, tested}
use Rattle.meaning.specs.Rows.{TestKind, name_of, row_of}
use Rattle.meaning.specs.Meaning.{check, meaning}
use Rattle.meaning_laws.specs.Ends.{AtEnds, Breaks}

-- The name is set. (own)
abbrev pub IsSet : List ℕ → List (List ℕ × List ℕ) → Type 0
IsSet name vars = (value : List ℕ) × (value_of vars name ≡ Some value)

-- The name is unset. (own)
abbrev pub IsUnset : List ℕ → List (List ℕ × List ℕ) → Type 0
IsUnset name vars = value_of vars name ≡ None

-- The name has one entry at most: without that entry it is unset. (own)
abbrev pub StandsOnce : List ℕ → List (List ℕ × List ℕ) → Type 0
StandsOnce name vars = IsUnset name (without_entry vars name)

-- If the name has one entry at most, it has one at most at each end of the run. (own)
abbrev pub KeepsOnce : List ℕ → (State → Run) → Type 0
KeepsOnce name run =
    (st : State) → StandsOnce name st.vars → AtEnds (λ how now. StandsOnce name now.vars) (run st)

-- Statements never give a name a second entry. (own)
abbrev pub NamesStandOnce : Type 0
NamesStandOnce = (script : Script) (name : List ℕ) → KeepsOnce name (meaning script)

-- If a run doesn't continue, the name is unset. (own)
abbrev pub UnsetIfBroken : List ℕ → Run → Type 0
UnsetIfBroken name run = AtEnds (λ how now. Breaks how → IsUnset name now.vars) run

-- A test that doesn't continue leaves its name unset, if its body never gives the name a second entry. (own)
abbrev pub BrokenIsUnset : Type 0
BrokenIsUnset = (test : Test) (st : State) → KeepsOnce test.name test.body
    → UnsetIfBroken test.name (cached_test test st)

-- A test that begins, and doesn't continue, leaves its name unset. (own)
abbrev pub BrokenRowIsUnset : Type 0
BrokenRowIsUnset = (kind : TestKind) (st : State) → UnsetIfBroken (name_of kind) (tested (row_of kind st) st)

-- AC_CACHE_CHECK that doesn't continue leaves its name unset, whatever its commands. (Autoconf's manual, "Caching
-- Results")
abbrev pub BrokenCheckIsUnset : Type 0
BrokenCheckIsUnset = (message : List Part) (name : List ℕ) (commands : Script) (st : State)
    → UnsetIfBroken name (cached_test (check message name (meaning commands) st) st)

-- A name that is set is set at each end of any statements. (own)
abbrev pub SetStaysSet : Type 0
SetStaysSet = (script : Script) (name : List ℕ) (st : State) → IsSet name st.vars
    → AtEnds (λ how now. IsSet name now.vars) (meaning script st)

-- A test whose name is set asks for nothing, and prints its value. (Autoconf's manual, "Caching Results")
abbrev pub SetTestsAskNothing : Type 0
SetTestsAskNothing = (test : Test) (st : State) (value : List ℕ) → value_of st.vars test.name ≡ Some value
    → cached_test test st ≡ Ends Goes_on (with_result (codes "(cached) " ++ test.shown (Some value)) (checking test.message st))

-- The state after a test whose name is set to this value: it has printed what is checked, and the value. (Autoconf's
-- manual, "Caching Results")
abbrev pub with_cached : Test → List ℕ → State → State
with_cached test value st = with_result (codes "(cached) " ++ test.shown (Some value)) (checking test.message st)

-- A test in a statement whose name is set asks for nothing. Variables and definitions are those from before, and then
-- what is done with the value is done. (own)
pub record AsksNothing (row : Row) (value : List ℕ) (st : State) : Type 0 where
  pub run : tested row st ≡ Ends Goes_on (row.after (Some value) (with_cached row.test value st))
  pub vars : (with_cached row.test value st).vars ≡ st.vars
  pub defs : (with_cached row.test value st).defs ≡ st.defs

-- This holds of each test whose name is set. (Autoconf's manual, "Caching Results")
abbrev pub SetRowAsksNothing : Type 0
SetRowAsksNothing = (row : Row) (value : List ℕ) (st : State) → value_of st.vars row.test.name ≡ Some value
    → AsksNothing row value st
