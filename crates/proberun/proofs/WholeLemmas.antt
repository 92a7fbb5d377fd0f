-- The machine and the crew, from group to group.
use Rattle.std.proofs.Common.{◌≡◌, ℕ, ◌+◌, List, [], ◌∷◌, length, map, Option, Some, None, Result, Ok, Err, OnErr, refl, sym, ap, ◌∙◌, subst, arith}
use Rattle.std.specs.Prelude.{IsSome, IfOk, IsErr}
use Rattle.std.proofs.lemmas.List.{append-nil}
use Rattle.std.proofs.lemmas.List.Sums.{fold-append}
use Rattle.crew_trait.specs.declared.reply.Reply.{Reply}
use Rattle.crew_trait.specs.Events.{Account, IsIdle, replies_in, in_flight, flying_after}
use Rattle.meaning.specs.Meaning.{meaning}
use Rattle.meaning.specs.State.{State, How, Goes_on, Completed, Stopped, Cut, Run, Ends, Asks}
use Rattle.meaning.specs.Play.{play, after, all_jobs, first_refused, whole}
use Rattle.plan.specs.Walk.{DoesWhat, empty_mind, Instruction, walk}
use Rattle.plan.specs.Inside.{asks_after}
use Rattle.run_machine.specs.declared.machine.Phase.{Phase}
use Rattle.run_machine.specs.declared.machine.Phase.TheVariants as phase
use Rattle.run_machine.specs.declared.machine.Turn.{Turn}
use Rattle.run_machine.specs.declared.machine.Turn.TheVariants as turn
use Rattle.run_machine.specs.declared.machine.RunOutcome.{RunOutcome}
use Rattle.run_machine.specs.declared.machine.RunOutcome.TheVariants as outcome
use Rattle.run_machine.specs.declared.machine.RunEnd.{RunEnd}
use Rattle.run_test.specs.declared.wait.Wait.TheVariants as waits
use Rattle.run_test.specs.Waits.{all_replies}
use Rattle.run_machine.specs.Standing.{Standing, run_under, run_in, run_at, left_in, run_left, Shows, CutsAt, Refusals, Holds, Fits, fits_in, asks_in, asks_left, Turned, outcome_of}
use Rattle.proberun.specs.Serving.{Served}
use Rattle.proberun.specs.Ran.{Ran, outcome_from, state_of}
use Rattle.proberun.specs.Progress.{Progress, Heeded, HasBegun, Moving, Leaves, WasRun}
use Rattle.ac_tree.specs.Script.{Script}
use Rattle.proberun.proofs.RunLemmas.{progress_begins, progress_same, progress_heard, progress_group, length-replies, answered_both, refused_later, no_failures}

-- A machine that is ready for its next turn.
pub record Ready (w : ℕ) (plan : List Instruction) (run : Run) (before now : Account) (m : Standing) (left : ℕ) : Type 0 where
  pub progress : Progress w run (run_left plan m) m.before (all_replies m.replies) before now
  pub fits : Fits plan m
  pub moving : Moving m.phase
  pub asks : asks_left plan m ≡ left

pub begins : (w : ℕ) (plan : List Instruction) (m : Standing) (st : State) (now : Account) → m ≡ record { phase = phase.Going; place = 0; mind = empty_mind; state = st; wait = waits.Nothing; before = 0; jobs = []; replies = [] } → IsIdle now.events → Ready w plan (whole (walk plan 0 empty_mind st)) now now m (asks_after plan 0)
begins w plan m st now is idle =
    subst (λ x. Ready w plan (whole (walk plan 0 empty_mind st)) now now x (asks_after plan 0)) (sym is)
    (record { progress = progress_begins w _ _ now refl idle; fits = record { jobs = refl; replies = refl; place = omega arith; counted = omega arith }; moving = tt; asks = refl })

given-map : (rs : List Reply) → all_replies (map Some rs) ≡ rs
given-map [] = refl
given-map (r ∷ rs) = ap (λ l. r ∷ l) (given-map rs)

length-given : (rs : List (Option Reply)) → length (all_replies rs) ≡ length rs
length-given [] = refl
length-given (r ∷ rs) = let e = length-given rs in omega arith

length-somes : (rs : List Reply) → length (map Some rs) ≡ length rs
length-somes [] = refl
length-somes (r ∷ rs) = let e = length-somes rs in omega arith

-- There is room for the reply to each job.
places : (p : Phase) (plan : List Instruction) (m : Standing) → fits_in p plan m → length m.replies ≡ length m.jobs
places phase.Going plan m h = h.replies ∙ sym h.jobs
places phase.Asking plan m h = h.replies
places phase.Past plan m h = h.replies ∙ sym h.jobs
places phase.Completed plan m h = h.replies ∙ sym h.jobs
places (phase.Stopped status) plan m h = h.replies ∙ sym h.jobs
places (phase.Cut number) plan m h = h.replies ∙ sym h.jobs
places phase.Failed plan m h = h.replies ∙ sym h.jobs

-- The run that a turn `Ask` reports.
shows_ask : (r : Run) (m : Standing) → Shows turn.Ask r m → m.phase ≡ phase.Asking
shows_ask (Ends how st) m h = absurd h
shows_ask (Asks jobs next) m h = h.0

fits_at : (p : Phase) (plan : List Instruction) (m : Standing) → p ≡ phase.Asking → fits_in p plan m → Holds plan m
fits_at p plan m e h = let q : fits_in phase.Asking plan m = subst (λ x. fits_in x plan m) e h in q

-- If a machine asks, no call has failed so far.
pub no_failure_yet : (w : ℕ) (plan : List Instruction) (run : Run) (before mid : Account) (old m : Standing) → Turned plan turn.Ask old m → Progress w run (run_left plan old) old.before (all_replies old.replies) before mid → mid.failures ≡ before.failures
no_failure_yet w plan run before mid old m t p =
    let none = no_failures (replies_in before.attempts (length (all_jobs p.groups)) p.since) (ap first_refused p.heeded.whole ∙ answered_both p.heeded.earlier (all_replies old.replies) p.heeded.answered t.refusals) in
    omega (arith, p.failures, none)

-- What follows the replies to the jobs that a machine asks for.
abbrev next_of : List Instruction → Standing → List Reply → Run
next_of plan m replies = run_under replies plan m

after_replies : (plan : List Instruction) (m : Standing) (rs : List Reply) → m.phase ≡ phase.Asking → run_left plan (record m { replies = map Some rs }) ≡ next_of plan m rs
after_replies plan m rs asking =
    ap (λ p. left_in p plan (record m { replies = map Some rs })) asking ∙ ap (next_of plan m) (given-map rs)

served_ready : (w : ℕ) (plan : List Instruction) (run : Run) (before mid now : Account) (old m : Standing) (replies : List (Option Reply)) → Turned plan turn.Ask old m → Fits plan old → Progress w run (run_left plan old) old.before (all_replies old.replies) before mid → (served : Served w mid m.jobs replies now) → Ready w plan run before now (record m { replies = map Some (replies_in mid.attempts (length m.jobs) served.since) }) (asks_left plan m)
served_ready w plan run before mid now old m replies t fits p served =
    let rs = replies_in mid.attempts (length m.jobs) served.since in
    let asking = shows_ask (run_at plan m) m t.shows in
    let at : Holds plan m = fits_at m.phase plan m asking t.fits in
    let asks : Asks m.jobs (next_of plan m) ≡ run_left plan old = sym (ap (λ p. run_in p plan m) asking) ∙ t.same in
    let count : m.before ≡ old.before + length (all_replies old.replies) = omega (arith, t.before, length-given old.replies, places old.phase plan old fits) in
    let heard = progress_heard w run (run_left plan old) old.before m.before (all_replies old.replies) before mid t.refusals count p in
    let q = progress_group w run m.jobs (next_of plan m) m.before before mid now replies (progress_same w run (run_left plan old) (Asks m.jobs (next_of plan m)) m.before [] before mid asks heard) served in
    let len : length (map Some rs) ≡ length m.jobs = length-somes rs ∙ length-replies mid.attempts (length m.jobs) served.since in
    let same : asks_left plan (record m { replies = map Some rs }) ≡ asks_left plan m =
    ap (λ p. asks_in p plan (record m { replies = map Some rs })) asking ∙ sym (ap (λ p. asks_in p plan m) asking) in
    record {
      progress = progress_same w run _ _ _ _ before now (after_replies plan m rs asking) (subst (λ l. Progress w run (next_of plan m rs) m.before l before now) (sym (given-map rs)) q);
      fits = let w : Holds plan (record m { replies = map Some rs }) = record { awaits = at.awaits; replies = len; place = at.place; counted = omega (arith, at.counted, same) } in
          subst (λ x. fits_in x plan (record m { replies = map Some rs })) (sym asking) w;
      moving = subst Moving (sym asking) tt;
      asks = same;
    }

pub serves : (w : ℕ) (plan : List Instruction) (run : Run) (before mid now : Account) (old m new : Standing) → Turned plan turn.Ask old m → Fits plan old → Progress w run (run_left plan old) old.before (all_replies old.replies) before mid → Served w mid m.jobs new.replies now → new ≡ record m { replies = new.replies } → Ready w plan run before now new (asks_left plan m)
serves w plan run before mid now old m new t fits p served same =
    let is : new ≡ record m { replies = map Some (replies_in mid.attempts (length m.jobs) served.since) } = same ∙ ap (λ l. record m { replies = l }) served.replied in
    subst (λ x. Ready w plan run before now x (asks_left plan m)) (sym is) (served_ready w plan run before mid now old m new.replies t fits p served)

-- The number of the first refused reply that a last turn reports.
abbrev PlaceBy : Turn → Option ℕ → Type 0
PlaceBy turn.Ask refused = refused ≡ None
PlaceBy turn.Done refused = refused ≡ None
PlaceBy (turn.Stopped status) refused = refused ≡ None
PlaceBy (turn.Cut number) refused = refused ≡ Some number

cuts_at : (p : Phase) (number : ℕ) (m : Standing) → Moving p → CutsAt p number m → (k : ℕ) × (first_refused (all_replies m.replies) ≡ Some k) × (number ≡ m.before + k)
cuts_at phase.Going number m moving h = h
cuts_at phase.Asking number m moving h = h
cuts_at phase.Past number m moving h = absurd moving
cuts_at phase.Completed number m moving h = absurd moving
cuts_at (phase.Stopped status) number m moving h = absurd moving
cuts_at (phase.Cut k) number m moving h = absurd moving
cuts_at phase.Failed number m moving h = absurd moving

place_by : (t : Turn) (m : Standing) (all : List Reply) → Heeded all m.before (all_replies m.replies) → Moving m.phase → Refusals t m → PlaceBy t (first_refused all)
place_by turn.Ask m all h moving r = ap first_refused h.whole ∙ answered_both h.earlier (all_replies m.replies) h.answered r
place_by turn.Done m all h moving r = ap first_refused h.whole ∙ answered_both h.earlier (all_replies m.replies) h.answered r
place_by (turn.Stopped status) m all h moving r = ap first_refused h.whole ∙ answered_both h.earlier (all_replies m.replies) h.answered r
place_by (turn.Cut number) m all h moving r =
    let at = cuts_at m.phase number m moving r in
    let n : length h.earlier + at.0 ≡ number = omega (arith, h.count, at.2) in
    ap first_refused h.whole ∙ refused_later h.earlier (all_replies m.replies) at.0 h.answered at.1 ∙ ap Some n

-- What a run leaves, from its outcome and the state in which it ends.
abbrev pub end_of : RunOutcome → State → RunEnd
end_of o st = record { outcome = o; vars = st.vars; defs = st.defs; messages = st.messages; log = st.log }

record Ending (r : Run) (refused : Option ℕ) (end : RunEnd) : Type 0 where
  pub how : How
  pub is : r ≡ Ends how (state_of end)
  pub outcome : outcome_from how refused ≡ Some end.outcome

ending_by : (how : How) (o : RunOutcome) (st : State) (m : Standing) (end : RunEnd) (refused place : Option ℕ) → end ≡ end_of o m.state → m.state ≡ st → refused ≡ place → outcome_from how place ≡ Some o → Ending (Ends how st) refused end
ending_by how o st m end refused place is same placed gives = record {
  how = how;
  is = ap (Ends how) (sym same ∙ sym (ap state_of is));
  outcome = ap (outcome_from how) placed ∙ gives ∙ ap (λ e. Some e.outcome) (sym is);
}

ending : (t : Turn) (r : Run) (m : Standing) (end : RunEnd) (refused : Option ℕ) → (t ≡ turn.Ask → ⊥) → Shows t r m → Leaves m.phase m end → PlaceBy t refused → Ending r refused end
ending turn.Ask r m end refused ne h leaves place = absurd (ne refl)
ending turn.Done (Ends Goes_on st) m end refused ne h leaves place = ending_by Goes_on outcome.Completed st m end refused None (subst (λ p. Leaves p m end) h.0 leaves) h.2 place refl
ending turn.Done (Ends Completed st) m end refused ne h leaves place = ending_by Completed outcome.Completed st m end refused None (subst (λ p. Leaves p m end) h.0 leaves) h.2 place refl
ending turn.Done (Ends (Stopped s) st) m end refused ne h leaves place = absurd h
ending turn.Done (Ends Cut st) m end refused ne h leaves place = absurd h
ending turn.Done (Asks jobs next) m end refused ne h leaves place = absurd h
ending (turn.Stopped s) (Ends (Stopped status) st) m end refused ne h leaves place =
    ending_by (Stopped status) (outcome.Stopped status) st m end refused None (subst (λ p. Leaves p m end) h.0 leaves) h.2 place refl
ending (turn.Stopped s) (Ends Goes_on st) m end refused ne h leaves place = absurd h
ending (turn.Stopped s) (Ends Completed st) m end refused ne h leaves place = absurd h
ending (turn.Stopped s) (Ends Cut st) m end refused ne h leaves place = absurd h
ending (turn.Stopped s) (Asks jobs next) m end refused ne h leaves place = absurd h
ending (turn.Cut number) (Ends Cut st) m end refused ne h leaves place =
    ending_by Cut (outcome.CutShort number) st m end refused (Some number) (subst (λ p. Leaves p m end) h.0 leaves) h.2 place refl
ending (turn.Cut number) (Ends Goes_on st) m end refused ne h leaves place = absurd h
ending (turn.Cut number) (Ends Completed st) m end refused ne h leaves place = absurd h
ending (turn.Cut number) (Ends (Stopped s) st) m end refused ne h leaves place = absurd h
ending (turn.Cut number) (Asks jobs next) m end refused ne h leaves place = absurd h

pub ends : (w : ℕ) (plan : List Instruction) (run : Run) (before now : Account) (old m : Standing) (t : Turn) (end : RunEnd) → (t ≡ turn.Ask → ⊥) → Turned plan t old m → Moving old.phase → Progress w run (run_left plan old) old.before (all_replies old.replies) before now → Leaves m.phase m end → Ran w run before now end
ends w plan run before now old m t end ne turned moving p leaves =
    let rs = replies_in before.attempts (length (all_jobs p.groups)) p.since in
    let e = ending t (run_at plan m) m end (first_refused rs) ne turned.shows leaves (place_by t old rs p.heeded moving turned.refusals) in
    let left : run_left plan old ≡ Ends e.how (state_of end) = sym turned.same ∙ e.is in
    record {
      since = p.since;
      events = p.events;
      groups = p.groups;
      attempts = p.attempts;
      starts = p.starts;
      how = e.how;
      meaning = ap (play run) (sym (append-nil rs)) ∙ p.plays [] ∙ ap (λ r. after p.groups (play r [])) left
          ∙ ap (λ g. record { how = e.how; state = state_of end; groups = g }) (append-nil p.groups);
      outcome = e.outcome;
      fills = p.fills;
      least = p.least;
      failures = p.failures;
    }

-- As many children are in flight as before.
pub all_landed : (w : ℕ) (run left : Run) (asked : ℕ) (latest : List Reply) (before now : Account) → Progress w run left asked latest before now → in_flight now.events ≡ in_flight before.events
all_landed w run left asked latest before now p = ap in_flight p.events ∙ fold-append flying_after 0 before.events p.since ∙ p.landed (in_flight before.events)

-- A turn that asks for nothing is at an end.
pub at_end : (plan : List Instruction) (t : Turn) (old m : Standing) → (t ≡ turn.Ask → ⊥) → Turned plan t old m → IsSome (outcome_of m.phase)
at_end plan turn.Ask old m ne h = absurd (ne refl)
at_end plan turn.Done old m ne h = subst IsSome (sym h.outcome) refl
at_end plan (turn.Stopped status) old m ne h = subst IsSome (sym h.outcome) refl
at_end plan (turn.Cut number) old m ne h = subst IsSome (sym h.outcome) refl

-- A run before its first start.
pub not_started : (w : ℕ) (run : Run) (now : Account) → IsIdle now.events → HasBegun w run now now
not_started w run now idle = record { left = run; asked = 0; latest = []; progress = progress_begins w run run now refl idle }

pub any_err : {T E : Type 0} (P : Type 0) (r : Result T E) → P → OnErr r P
any_err P (Ok x) p = tt
any_err P (Err e) p = p

-- What was run of a plan, by its result.
pub was_run : {E : Type 0} (w : ℕ) (run : Run) (before now : Account) (r : Result RunEnd E) → IfOk r (λ end. Ran w run before now end) → OnErr r (HasBegun w run before now) → WasRun w run before now r
was_run w run before now (Ok end) ran begun = ran
was_run w run before now (Err e) ran begun = begun

-- A run that failed before its first start.
pub none_started : {E : Type 0} (w : ℕ) (run : Run) (now : Account) (r : Result RunEnd E) → IsErr r → IsIdle now.events → WasRun w run now now r
none_started w run now (Ok end) e idle = absurd cc
none_started w run now (Err f) e idle = not_started w run now idle

-- What was run of a plan is the meaning of the statements that it does.
pub as_meant : {E : Type 0} (w : ℕ) (plan : List Instruction) (script : Script) (st : State) (before now : Account) (r : Result RunEnd E) → DoesWhat plan script
    → WasRun w (whole (walk plan 0 empty_mind st)) before now r → WasRun w (whole (meaning script st)) before now r
as_meant w plan script st before now r does h = subst (λ run. WasRun w (whole run) before now r) (does st) h
