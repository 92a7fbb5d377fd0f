-- Tests that write no name but their own.
use Rattle.std.proofs.Common.{◌≡◌, ℕ, Option, Some, None, List, Bool, true, false, inl, inr, refl, sym, ap, ◌∙◌, subst, ⊎_elim, [], ◌∷◌}
use Rattle.crew_jobs.specs.Probe.{job_of}
use Rattle.deftable.specs.Table.{value_of, with_entry, without_entry}
use Rattle.shellword.specs.Value.{word_value}
use Rattle.ac_tree.specs.declared.statement.Effect.{Effect}
use Rattle.ac_tree.specs.declared.statement.Effect.TheVariants.{Assign}
use Rattle.ac_tree.specs.declared.statement.Question.TheVariants.{Tries}
use Rattle.ac_tree.specs.declared.tree.Subject.{Subject}
use Rattle.ac_tree.specs.declared.tree.Subject.TheVariants.{Nothing, Word, Asked}
use Rattle.ac_tree.specs.Commands.{AssignsAlone, TriesAlone, AreCommands, AreCommandsIn}
use Rattle.ac_tree.specs.Script.{Script, Done, Then, Choice, Check, Cases, No_case, Case}
use Rattle.meaning.specs.State.{State, Scope, answered, How, Goes_on, Run, as_is}
use Rattle.meaning.specs.Tests.{Test, broken, checking, cached_test, with_value, tested_by, may_begin}
use Rattle.meaning.specs.Rows.{TestKind, name_of, attempts_of, otherwise_of, row_of}
use Rattle.meaning.specs.Tries.{first_probe, text_of}
use Rattle.meaning.specs.Meaning.{effect, after_subject, rounds_of, in_turn, is_taken, check, meaning, chosen}
use Rattle.meaning_laws.specs.Ends.{AtEnds, Breaks}
use Rattle.meaning_laws.specs.Cached.{IsUnset}
use Rattle.meaning_laws.specs.Commands.{WritesOwn, SameIfBroken, BrokenLeavesVariables, BrokenRowLeavesVariables, CommandsWriteAlone, BrokenCheckLeavesVariables}
use Rattle.meaning_laws.proofs.Values.{without_unset, reset_own, rewritten}
use Rattle.meaning_laws.proofs.Endings.{ends_then, ends_either, ends_child, ends_compiled, ends_attempted}
use Rattle.meaning_laws.proofs.CachedTests.{broken_ends, broken_vars, set_or_broken}
use Rattle.meaning_laws.proofs.Statements.{first_holds}
use Rattle.meaning_laws.proofs.Kept.{Keeps, KeepsFrom, then_keeps}

-- The variables from before, if the name alone was written and is unset again.
pub own_unset : (before now : List (List ℕ × List ℕ)) (name : List ℕ) → IsUnset name before → WritesOwn name before now → without_entry now name ≡ before
own_unset before now name e w =
    ⊎_elim
    (λ same. ap (λ l. without_entry l name) same ∙ without_unset before name e)
    (λ set. ap (λ l. without_entry l name) set.1 ∙ reset_own before name set.0 e)
    w

pub broken_leaves_variables : BrokenLeavesVariables
broken_leaves_variables t st alone =
    set_or_broken (λ now. now.vars ≡ st.vars) t st
    (λ e. broken_ends (λ how now. WritesOwn t.name st.vars now.vars) (λ how now. Breaks how → now.vars ≡ st.vars) t st e (alone (checking t.message st))
    (λ how now breaks w again. broken_vars t.name how now breaks ∙ own_unset st.vars now.vars t.name e w)
    (λ now w breaks. absurd (breaks refl)))

-- Variables and definitions are the same.
abbrev Leaves : State → State → Type 0
Leaves st now = (now.vars ≡ st.vars) × (now.defs ≡ st.defs)

-- They are, or the name alone was set.
abbrev pub OwnOnly : List ℕ → State → State → Type 0
OwnOnly name st now = WritesOwn name st.vars now.vars × (now.defs ≡ st.defs)

pub broken_defs : (name : List ℕ) (how : How) (st : State) → (broken name how st).defs ≡ st.defs
broken_defs name Goes_on st = refl
broken_defs name _ st = refl

broken_same : (t : Test) (st : State) → AtEnds (λ how now. OwnOnly t.name st now) (t.body (checking t.message st)) → SameIfBroken st (cached_test t st)
broken_same t st alone =
    set_or_broken (λ now. Leaves st now) t st
    (λ e. broken_ends (λ how now. OwnOnly t.name st now) (λ how now. Breaks how → Leaves st now) t st e alone
    (λ how now breaks w again. (broken_vars t.name how now breaks ∙ own_unset st.vars now.vars t.name e w.0, broken_defs t.name how now ∙ w.1))
    (λ now w breaks. absurd (breaks refl)))

-- Rows.
with_value_own : (name : List ℕ) (value : Option (List ℕ)) (st now : State) → Leaves st now → OwnOnly name st (with_value name value now)
with_value_own name None st now h = (inl h.0, h.1)
with_value_own name (Some value) st now h = (inr (value, ap (λ l. with_entry l name value) h.0), h.1)

pub row_alone : (kind : TestKind) (first st : State) → AtEnds (λ how now. OwnOnly (name_of kind) st now) ((row_of kind first).test.body st)
row_alone kind first st =
    ends_attempted (λ now. Leaves st now) (λ how now. OwnOnly (name_of kind) st now) (λ job reply now h. h) (attempts_of kind first) (otherwise_of kind) _
    (λ now h. (inl h.0, h.1)) (λ now h. (inl h.0, h.1)) (λ value now h. with_value_own (name_of kind) value st now h) st (refl, refl)

begun_row : (kind : TestKind) (first st : State) → SameIfBroken st (tested_by true (row_of kind first) st)
begun_row kind first st =
    let t = (row_of kind first).test in
    ends_then (λ how now. Breaks how → Leaves st now) (λ how now. Breaks how → Leaves st now) (cached_test t st) _
    (broken_same t st (row_alone kind first (checking t.message st)))
    (λ now h breaks. absurd (breaks refl)) (λ how now breaks h. h)

pub broken_row_leaves_variables : BrokenRowLeavesVariables
broken_row_leaves_variables kind st = by_begin (may_begin (value_of st.vars (name_of kind)) (row_of kind st).ready)
  where
    by_begin : (b : Bool) → SameIfBroken st (tested_by b (row_of kind st) st)
    by_begin true = begun_row kind st st
    by_begin false = λ breaks. (refl, refl)

-- Commands.
own_write : (before now : List (List ℕ × List ℕ)) (name value : List ℕ) → WritesOwn name before now → WritesOwn name before (with_entry now name value)
own_write before now name value w =
    ⊎_elim
    (λ same. inr (value, ap (λ l. with_entry l name value) same))
    (λ set. inr (value, ap (λ l. with_entry l name value) set.1 ∙ rewritten before name set.0 value))
    w

effect_writes : (name : List ℕ) (first : State) (e : Effect) (st : State) → AssignsAlone name e → OwnOnly name first st → Keeps (OwnOnly name first) (effect e st)
unfolding effect
effect_writes name first (Assign variable value) st a h =
    (subst (λ x. WritesOwn name first.vars (with_entry st.vars x (word_value value st.vars))) (sym a) (own_write first.vars st.vars name (word_value value st.vars) h.0), h.1)
effect_writes name first _ st a h = absurd a

begun_writes : (name : List ℕ) (first : State) (subject : Subject) (st : State) (go : Scope → State → Run) → TriesAlone subject → ((scope : Scope) (now : State) → OwnOnly name first now → Keeps (OwnOnly name first) (go scope now)) → OwnOnly name first st → Keeps (OwnOnly name first) (after_subject as_is subject st go)
unfolding after_subject
begun_writes name first Nothing st go a k h = k _ st h
begun_writes name first (Word word) st go a k h = k _ st h
begun_writes name first (Asked (Tries kind program)) st go a k h =
    ends_compiled (OwnOnly name first) (λ how now. OwnOnly name first now) (λ job reply now x. x) (job_of (first_probe kind (text_of program st.vars)) 0 st.vars st.defs) st _ (λ now x. x) (λ now x. x)
    (first_holds (KeepsFrom (OwnOnly name first)) (λ job now to after. ends_child (OwnOnly name first) (λ how later. OwnOnly name first later) (λ j reply later x. x) job now to (λ later x. x) after)
    kind (λ b. go (answered b)) (λ b now x. k (answered b) now x)) h
begun_writes name first (Asked _) st go a k h = absurd a

-- Each of their choices has one round.
pub one_round : (subject : Subject) → TriesAlone subject → rounds_of subject ≡ subject ∷ []
one_round Nothing a = refl
one_round (Word word) a = refl
one_round (Asked (Tries kind program)) a = refl
one_round (Asked _) a = absurd a

turn_writes : (name : List ℕ) (first : State) (subject : Subject) (st : State) (go : Scope → State → Run) → TriesAlone subject → ((scope : Scope) (now : State) → OwnOnly name first now → Keeps (OwnOnly name first) (go scope now)) → OwnOnly name first st
    → Keeps (OwnOnly name first) (in_turn (rounds_of subject) go st)
turn_writes name first subject st go a k h =
    subst (λ rounds. Keeps (OwnOnly name first) (in_turn rounds go st)) (sym (one_round subject a))
    (then_keeps (OwnOnly name first) (after_subject as_is subject st go) (in_turn [] go) (begun_writes name first subject st go a k h) (λ now x. x))

mutual
  unfolding meaning chosen

  commands_write : (name : List ℕ) (first : State) (script : Script) (st : State) → AreCommands name script → OwnOnly name first st → Keeps (OwnOnly name first) (meaning script st)
  commands_write name first Done st a h = h
  commands_write name first (Then declares e rest) st a h =
      then_keeps (OwnOnly name first) (effect e st) (meaning rest) (effect_writes name first e st a.1.0 h) (λ now k. commands_write name first rest now a.1.1 k)
  commands_write name first (Choice declares subject cases rest) st a h =
      then_keeps (OwnOnly name first) (in_turn (rounds_of subject) (chosen cases) st) (meaning rest)
      (turn_writes name first subject st (chosen cases) a.1.0 (λ scope now k. cases_write name first cases scope now a.1.1.0 k) h) (λ now k. commands_write name first rest now a.1.1.1 k)
  commands_write name first (Check message other commands rest) st a h = absurd a

  cases_write : (name : List ℕ) (first : State) (cases : Cases) (scope : Scope) (st : State) → AreCommandsIn name cases → OwnOnly name first st → Keeps (OwnOnly name first) (chosen cases scope st)
  cases_write name first No_case scope st a h = h
  cases_write name first (Case when body more) scope st a h =
      ends_either (λ how now. OwnOnly name first now) (is_taken when scope st.vars) (meaning body st) (chosen more scope st)
      (commands_write name first body st a.0 h) (cases_write name first more scope st a.1 h)

pub commands_write_alone : CommandsWriteAlone
commands_write_alone commands name a st = commands_write name st commands st a (inl refl, refl)

pub broken_check_leaves_variables : BrokenCheckLeavesVariables
broken_check_leaves_variables message name commands a st =
    broken_same (check message name (meaning commands) st) st (commands_write_alone commands name a (checking (word_value message st.vars) st))
