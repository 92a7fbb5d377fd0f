-- What every write keeps holds at each end of any statements.
use Rattle.std.proofs.Common.{◌≡◌, ℕ, Option, Some, None, List, [], ◌∷◌, codes, Bool, true, false, refl, sym, ap, ◌∙◌}
use Rattle.crew_jobs.specs.declared.job.Job.{Job}
use Rattle.crew_trait.specs.declared.reply.Reply.{Reply}
use Rattle.deftable.specs.declared.note.Stream.{Stream}
use Rattle.deftable.specs.declared.note.Stream.TheVariants.{Out}
use Rattle.deftable.specs.Table.{value_of, with_entry, without_entry}
use Rattle.ac_tree.specs.Script.{Script}
use Rattle.meaning.specs.State.{State, with_note, with_child, with_variable, with_definition, without_variable, How, Goes_on, Cut, Run, Ends, then_run}
use Rattle.meaning.specs.Asking.{success, only_reply}
use Rattle.meaning.specs.Tests.{broken, cached_test, tested_by, may_begin, tested}
use Rattle.meaning.specs.Rows.{TestKind, name_of, row_of, Formed}
use Rattle.meaning.specs.Forms.{FormTest, form_name}
use Rattle.meaning.specs.Meaning.{check, meaning}
use Rattle.meaning.specs.Batches.{asking, jobs_in, yes_or_no, replied, replies_after, committed, batched}
use Rattle.meaning_laws.specs.Ends.{AtEnds, Breaks}
use Rattle.meaning_laws.specs.Cached.{IsSet, IsUnset, StandsOnce, UnsetIfBroken, NamesStandOnce, BrokenRowIsUnset, BrokenCheckIsUnset, SetStaysSet}
use Rattle.meaning_laws.proofs.Values.{Entries, not_same, set_write, value_without, once_with, once_without}
use Rattle.meaning_laws.proofs.Endings.{ends_then, ends_ended, ends_commits, ends_asks_all, ends_heard, ends_child}
use Rattle.meaning_laws.proofs.CachedTests.{broken_is_unset}
use Rattle.meaning_laws.proofs.Statements.{Steps, AllSteps, body_holds, after_holds, row_holds, meaning_holds}
use Rattle.meaning_laws.proofs.BatchEntries.{row_at}

-- Every change of a state keeps this. A test that unsets a name began with the name unset.
pub record Closed (I : State → Type 0) : Type 0 where
  pub tells : (stream : Stream) (text : List ℕ) (st : State) → I st → I (with_note stream text st)
  pub children : (job : Job) (reply : Reply) (st : State) → I st → I (with_child job reply st)
  pub variables : (name value : List ℕ) (st : State) → I st → I (with_variable name value st)
  pub definitions : (name value : List ℕ) (st : State) → I st → I (with_definition name value st)
  pub unsets : (name : List ℕ) (before st : State) → IsUnset name before.vars → I before → I st → I (without_variable name st)

abbrev pub Keeps : (State → Type 0) → Run → Type 0
Keeps I run = AtEnds (λ how now. I now) run

broken_keeps : (I : State → Type 0) → Closed I → (name : List ℕ) (before : State) → IsUnset name before.vars → I before → (how : How) (st : State) → I st → I (broken name how st)
broken_keeps I c name before e b Goes_on st h = h
broken_keeps I c name before e b Cut st h = c.tells Out (codes "refused\n") (without_variable name st) (c.unsets name before st e b h)
broken_keeps I c name before e b _ st h = c.unsets name before st e b h

pub then_keeps : (I : State → Type 0) (r : Run) (f : State → Run) → Keeps I r → ((st : State) → I st → Keeps I (f st)) → Keeps I (then_run r f)
then_keeps I r f h k = ends_then (λ how now. I now) (λ how now. I now) r f h k (λ how now breaks x. x)

-- If it holds in the first state, it holds at each end of the run.
abbrev pub KeepsFrom : (State → Type 0) → State → Run → Type 0
KeepsFrom I st run = I st → Keeps I run

pub steps_keep : (I : State → Type 0) → Closed I → Steps (KeepsFrom I)
steps_keep I c = record {
  goes = λ st h. h;
  completes = λ st h. h;
  stops = λ status st h. h;
  tells = λ stream text st run k h. k (c.tells stream text st h);
  variables = λ name value st run k h. k (c.variables name value st h);
  definitions = λ name value st run k h. k (c.definitions name value st h);
  children = λ job st go k h. ends_child I (λ how now. I now) c.children job st go (λ now x. x) k h;
  guards = λ name st run e k h. ends_ended (λ how now. I now) (λ how now. I now) (broken name) run (k h) (λ how now x. broken_keeps I c name st e h how now x);
  joins = λ st run rest k after h. then_keeps I run rest (k h) after;
}

-- A batch.
replied_keeps : (I : State → Type 0) → Closed I → (name : List ℕ) (job : Option Job) (reply : Reply) (st : State) → I st → Keeps I (replied name job reply st)
replied_keeps I c name None reply st h = h
replied_keeps I c name (Some job) reply st h =
    ends_heard I (λ how now. I now) (success reply) (with_child job reply st) (λ found now. Ends Goes_on (with_variable name (yes_or_no found) now)) (λ now k. k)
    (λ found now k. c.variables name (yes_or_no found) now k) (c.children job reply st h)

committed_keeps : (I : State → Type 0) → Closed I → (first : State) (asks : List (FormTest × Option Job)) (replies : List Reply) (refused : Bool) (st : State) → I st → Keeps I (committed first asks replies refused st)
committed_keeps I c first [] replies true st h = h
committed_keeps I c first [] replies false st h = h
committed_keeps I c first ((test, job) ∷ more) replies refused st h =
    let row = row_at test job (only_reply replies) first in
    ends_commits (λ how now. I now) (λ how now. I now) (tested row st) refused (committed first more (replies_after job replies))
    (row_holds (KeepsFrom I) (steps_keep I c) (may_begin (value_of st.vars (form_name test.form)) row.ready) row st
    (λ now k. replied_keeps I c (form_name test.form) job (only_reply replies) now k) (λ value now. after_holds (KeepsFrom I) (steps_keep I c) (Formed test) value now) h)
    (λ how b now k. committed_keeps I c first more (replies_after job replies) b now k) (λ how now k. k)

batched_keeps : (I : State → Type 0) → Closed I → (tests : List FormTest) (st : State) → I st → Keeps I (batched tests st)
batched_keeps I c tests st h =
    let asks = asking 1 [] tests st in
    ends_asks_all (λ how now. I now) (jobs_in asks) (λ replies. committed st asks replies false st) (λ replies. committed_keeps I c st asks replies false st h)

pub all_keep : (I : State → Type 0) → Closed I → AllSteps (KeepsFrom I)
all_keep I c = record { steps = steps_keep I c; batches = λ tests all st h. batched_keeps I c tests st h }

pub meaning_keeps : (I : State → Type 0) → Closed I → (script : Script) (st : State) → I st → Keeps I (meaning script st)
meaning_keeps I c script st h = meaning_holds (KeepsFrom I) (all_keep I c) script st h

-- ---- facts of the variables

pub of_variables : (P : Entries → Type 0) → ((es : Entries) (name value : List ℕ) → P es → P (with_entry es name value)) → ((before es : Entries) (name : List ℕ) → IsUnset name before → P before → P es → P (without_entry es name)) → Closed (λ st. P st.vars)
of_variables P writes unsets = record {
  tells = λ stream text st h. h;
  children = λ job reply st h. h;
  variables = λ name value st h. writes st.vars name value h;
  definitions = λ name value st h. h;
  unsets = λ name before st e b h. unsets before.vars st.vars name e b h;
}

-- A name with one entry at most.
stands_once : (name : List ℕ) → Closed (λ st. StandsOnce name st.vars)
stands_once name = of_variables (StandsOnce name) (λ es n value h. once_with es n value name h) (λ before es n e b h. once_without es n name h)

pub names_stand_once : NamesStandOnce
names_stand_once script name st h = meaning_keeps (λ now. StandsOnce name now.vars) (stands_once name) script st h

pub broken_check_is_unset : BrokenCheckIsUnset
broken_check_is_unset message name commands st = broken_is_unset (check message name (meaning commands) st) st (λ now h. names_stand_once commands name now h)

begun_row : (kind : TestKind) (first st : State) → UnsetIfBroken (name_of kind) (tested_by true (row_of kind first) st)
begun_row kind first st =
    ends_then (λ how now. Breaks how → IsUnset (name_of kind) now.vars) (λ how now. Breaks how → IsUnset (name_of kind) now.vars) (cached_test (row_of kind first).test st) _
    (broken_is_unset (row_of kind first).test st (λ now h. body_holds (KeepsFrom (λ x. StandsOnce (name_of kind) x.vars)) (steps_keep (λ x. StandsOnce (name_of kind) x.vars) (stands_once (name_of kind))) kind first now h))
    (λ now h breaks. absurd (breaks refl)) (λ how now breaks h. h)

broken_row : (kind : TestKind) (first st : State) (ready : Bool) (o : Option (List ℕ)) → value_of st.vars (name_of kind) ≡ o → UnsetIfBroken (name_of kind) (tested_by (may_begin o ready) (row_of kind first) st)
broken_row kind first st true None e = begun_row kind first st
broken_row kind first st false None e = λ breaks. e
broken_row kind first st ready (Some value) e = begun_row kind first st

pub broken_row_is_unset : BrokenRowIsUnset
broken_row_is_unset kind st = broken_row kind st st (row_of kind st).ready (value_of st.vars (name_of kind)) refl

-- A name that is set.
pub stays_set : (name : List ℕ) → Closed (λ st. IsSet name st.vars)
stays_set name =
    of_variables (IsSet name) (λ es n value h. set_write es n value name h)
    (λ before es n e b h. (h.0, value_without es n name (not_same name n (λ same. let z : None ≡ Some b.0 = sym e ∙ ap (value_of before) (sym same) ∙ b.1 in cc)) ∙ h.1))

pub set_stays_set : SetStaysSet
set_stays_set script name st h = meaning_keeps (λ now. IsSet name now.vars) (stays_set name) script st h
