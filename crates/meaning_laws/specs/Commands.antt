-- Laws of tests that set no name but their own.
use Rattle.std.specs.Prelude.{◌≡◌, ℕ, List, ◌⊎◌}
use Rattle.deftable.specs.Table.{with_entry}
use Rattle.shellword.specs.declared.part.Part.{Part}
use Rattle.ac_tree.specs.Commands.{AreCommands}
use Rattle.ac_tree.specs.Script.{Script}
use Rattle.meaning.specs.State.{State, Run}
use Rattle.meaning.specs.Tests.{Test, cached_test, tested}
use Rattle.meaning.specs.Rows.{TestKind, row_of}
use Rattle.meaning.specs.Meaning.{check, meaning}
use Rattle.meaning_laws.specs.Ends.{AtEnds, Breaks}

-- The variables are those from before, or the name alone was set. (own)
abbrev pub WritesOwn : List ℕ → List (List ℕ × List ℕ) → List (List ℕ × List ℕ) → Type 0
WritesOwn name before now = (now ≡ before) ⊎ ((value : List ℕ) × (now ≡ with_entry before name value))

-- At each end of the run this name alone was set. (own)
abbrev pub WritesAlone : List ℕ → (State → Run) → Type 0
WritesAlone name run = (st : State) → AtEnds (λ how now. WritesOwn name st.vars now.vars) (run st)

-- A test that doesn't continue leaves the variables as they were, in the same order, if its body sets its name alone.
-- (own)
abbrev pub BrokenLeavesVariables : Type 0
BrokenLeavesVariables = (test : Test) (st : State) → WritesAlone test.name test.body
    → AtEnds (λ how now. Breaks how → now.vars ≡ st.vars) (cached_test test st)

-- If the run doesn't continue, variables and definitions are those from before, in the same order. (own)
abbrev pub SameIfBroken : State → Run → Type 0
SameIfBroken st run = AtEnds (λ how now. Breaks how → (now.vars ≡ st.vars) × (now.defs ≡ st.defs)) run

-- Each test leaves them as they were if it doesn't continue. (own)
abbrev pub BrokenRowLeavesVariables : Type 0
BrokenRowLeavesVariables = (kind : TestKind) (st : State) → SameIfBroken st (tested (row_of kind st) st)

-- Commands of AC_CACHE_CHECK set its name alone, and define nothing. (Autoconf's manual, "Caching Results")
abbrev pub CommandsWriteAlone : Type 0
CommandsWriteAlone = (commands : Script) (name : List ℕ) → AreCommands name commands
    → (st : State) → AtEnds (λ how now. WritesOwn name st.vars now.vars × (now.defs ≡ st.defs)) (meaning commands st)

-- AC_CACHE_CHECK with such commands leaves variables and definitions as they were if it doesn't continue. (own)
abbrev pub BrokenCheckLeavesVariables : Type 0
BrokenCheckLeavesVariables = (message : List Part) (name : List ℕ) (commands : Script) → AreCommands name commands
    → (st : State) → SameIfBroken st (cached_test (check message name (meaning commands) st) st)
