-- A machine goes from step to step.
use Rattle.std.proofs.Common.{◌≡◌, ℕ, zero, suc, ◌+◌, ◌<◌, ◌≤◌, List, [], ◌∷◌, length, map, get_or, Option, Some, None, Result, Ok, Err, IfOk, refl, sym, ap, ◌∙◌, subst, arith}
use Rattle.std.specs.Prelude.{replicate, option_map}
use Rattle.std.specs.declared.alloc.AllocError.{AllocError}
use Rattle.std.proofs.Math.Path.{fun_ext}
use Rattle.std.proofs.lemmas.List.{length-map, length-replicate}
use Rattle.crew_trait.specs.declared.reply.Reply.{Reply}
use Rattle.meaning.specs.State.{State, Goes_on, Cut, Run, Ends, Asks}
use Rattle.plan.specs.declared.step.Step.{Step}
use Rattle.plan.specs.Walk.{DoesWhat, Instruction, Mind, empty_mind, mind_of, act, walk, instruction_of}
use Rattle.plan.specs.Inside.{StaysInside, reach, asks_of, asks_after}
use Rattle.run_test.specs.declared.flow.Flow.{Flow}
use Rattle.run_test.specs.declared.flow.Flow.TheVariants as flow
use Rattle.run_machine.specs.declared.machine.Phase.TheVariants as phase
use Rattle.run_machine.specs.declared.machine.Turn.{Turn}
use Rattle.run_machine.specs.declared.machine.Turn.TheVariants as turn
use Rattle.run_test.specs.declared.wait.Wait.TheVariants as waits
use Rattle.run_test.specs.Flows.{Leads, Continues, Heeds, IsGroup, passed, asks_now}
use Rattle.run_machine.specs.Moves.{arrived, turn_by}
use Rattle.run_machine.specs.Standing.{Standing, walk_inside, with_phase, run_at, run_left, left_in, CutsAt, Refusals, asks_in, asks_left, Holds, Rests, Turned}
use Rattle.meaning.specs.Meaning.{meaning}
use Rattle.meaning.specs.Play.{first_refused, refused_after, last_words, whole}
use Rattle.ac_tree.specs.Script.{Script}
use Rattle.plan.specs.Broken.{broken_all}
use Rattle.run_test.proofs.Flows.{continued}
use Rattle.run_test.specs.Waits.{all_replies, resumed, waits_for}

-- One step, at an offset.
walk_at : (steps : List Step) (k : ℕ) (s : Step) (c : Mind) (st : State) → k < length steps → s ≡ get_or steps k s
    → walk (map instruction_of steps) k c st ≡ act (instruction_of s) (λ n. walk (map instruction_of steps) (k + 1 + n)) c st
walk_at [] k s c st lt is = absurd (omega arith)
walk_at (x ∷ xs) zero s c st lt is =
    ap (λ y. act (instruction_of y) (walk (map instruction_of xs)) c st) (sym is)
    ∙ ap (λ f. act (instruction_of s) f c st) (fun_ext (λ n. let h : suc n ≡ 0 + 1 + n = omega arith in ap (walk (map instruction_of (x ∷ xs))) h))
walk_at (x ∷ xs) (suc k) s c st lt is =
    walk_at xs k s c st (omega arith) is
    ∙ ap (λ f. act (instruction_of s) f c st) (fun_ext (λ n. let h : suc (k + 1 + n) ≡ suc k + 1 + n = omega arith in ap (walk (map instruction_of (x ∷ xs))) h))

-- Past the last step.
walk_past : (steps : List Step) (k : ℕ) (c : Mind) (st : State) → length steps ≤ k → walk (map instruction_of steps) k c st ≡ Ends Goes_on st
walk_past [] k c st le = refl
walk_past (x ∷ xs) zero c st le = absurd (omega arith)
walk_past (x ∷ xs) (suc k) c st le = walk_past xs k c st (omega arith)

-- A jump from an offset stays inside.
pub reach_at : (steps : List Step) (k : ℕ) (s : Step) → StaysInside (map instruction_of steps) → k < length steps → s ≡ get_or steps k s → k + 1 + reach (instruction_of s) ≤ length steps
reach_at [] k s h lt is = absurd (omega arith)
reach_at (x ∷ xs) zero s h lt is = omega (arith, h.0, ap (λ y. reach (instruction_of y)) is, length-map xs instruction_of)
reach_at (x ∷ xs) (suc k) s h lt is = omega (arith, reach_at xs k s h.1 (omega arith) is)

-- The jobs of a step, and of those after it.
asks_here : (steps : List Step) (k : ℕ) (s : Step) → k < length steps → s ≡ get_or steps k s → asks_after (map instruction_of steps) k ≡ asks_of (instruction_of s) + asks_after (map instruction_of steps) (k + 1)
asks_here [] k s lt is = absurd (omega arith)
asks_here (x ∷ xs) zero s lt is = ap (λ y. asks_of (instruction_of y) + asks_after (map instruction_of xs) 0) (sym is)
asks_here (x ∷ xs) (suc k) s lt is =
    let n : suc (k + 1) ≡ suc k + 1 = omega arith in
    asks_here xs k s (omega arith) is ∙ ap (λ m. asks_of (instruction_of s) + asks_after (map instruction_of (x ∷ xs)) m) n

asks_from : (plan : List Instruction) (n : ℕ) → asks_after plan n ≤ asks_after plan 0
asks_from [] n = omega arith
asks_from (i ∷ rest) zero = omega arith
asks_from (i ∷ rest) (suc n) = omega (arith, asks_from rest n)

-- Steps that are passed leave no more jobs.
asks_on : (plan : List Instruction) (k n : ℕ) → asks_after plan (k + n) ≤ asks_after plan k
asks_on [] k n = omega arith
asks_on (i ∷ rest) zero n = let e : 0 + n ≡ n = omega arith in subst (λ m. asks_after (i ∷ rest) m ≤ asks_after (i ∷ rest) 0) (sym e) (asks_from (i ∷ rest) n)
asks_on (i ∷ rest) (suc k) n = let e : suc k + n ≡ suc (k + n) = omega arith in subst (λ m. asks_after (i ∷ rest) m ≤ asks_after rest k) (sym e) (asks_on rest k n)

-- If a flow is no turn, steps are passed.
arrived_pass : (f : Flow) (m : Standing) → turn_by f ≡ None → arrived f m ≡ record m { place = m.place + (1 + passed f) }
arrived_pass (flow.Pass more) m e = refl
arrived_pass (flow.Ask jobs wait) m e = cc
arrived_pass flow.Complete m e = cc
arrived_pass (flow.Stop status) m e = cc
arrived_pass (flow.Cut number) m e = cc

leads_pass : (f : Flow) (run : (ℕ → Mind → State → Run) → Run) (c : Mind) (st : State) → turn_by f ≡ None → Continues f run c st
    → (next : ℕ → Mind → State → Run) → run next ≡ next (passed f) c st
leads_pass (flow.Pass more) run c st e h next = h next
leads_pass (flow.Ask jobs wait) run c st e h next = cc
leads_pass flow.Complete run c st e h next = cc
leads_pass (flow.Stop status) run c st e h next = cc
leads_pass (flow.Cut number) run c st e h next = cc

-- Nothing is refused if nothing was asked for.
no_refusal : (replies : List (Option Reply)) → length replies ≡ 0 → first_refused (all_replies replies) ≡ None
no_refusal [] e = refl
no_refusal (r ∷ rs) e = absurd (omega arith)

-- The move of a machine that has done a step, or taken replies. `refused` is the number of the first refused child, if it
-- is among those replies.
pub record Moves (plan : List Instruction) (f : Flow) (old m : Standing) (refused : Option ℕ) (run : (ℕ → Mind → State → Run) → Run) : Type 0 where
  pub leads : Continues f run m.mind m.state
  pub place : m.place + 1 ≤ length plan
  pub jobs : m.jobs ≡ []
  pub replies : m.replies ≡ []
  pub whole : last_words m.before refused (run (λ k. walk plan (m.place + 1 + k))) ≡ run_left plan old
  pub heeds : Heeds f refused
  pub group : IsGroup f
  pub before : m.before ≡ old.before + length old.jobs
  pub asks : asks_now f + asks_after plan (m.place + 1) ≤ asks_left plan old
  pub counted : old.before + (length old.jobs + asks_left plan old) ≤ asks_after plan 0
  pub none : refused ≡ None → first_refused (all_replies old.replies) ≡ None
  pub cuts : (number : ℕ) → refused ≡ Some number → CutsAt old.phase number old

-- A turn.
lands_by : (plan : List Instruction) (f : Flow) (t : Turn) (old m : Standing) (refused : Option ℕ) (run : (ℕ → Mind → State → Run) → Run) → turn_by f ≡ Some t
    → Moves plan f old m refused run → Turned plan t old (arrived f m)
lands_by plan (flow.Pass more) t old m refused run e h = cc
lands_by plan (flow.Ask jobs wait) t old m refused run e h =
    let is : turn.Ask ≡ t = cc in
    let n : m.place + 1 + 0 ≡ m.place + 1 = omega arith in
    subst (λ x. Turned plan x old (arrived (flow.Ask jobs wait) m)) is (record {
      same =
          ap (λ k. Asks jobs.items (λ rs. last_words (m.before + length jobs.items) (refused_after m.before rs) (resumed m.mind.open_tests wait jobs.items rs (walk_inside plan k m.mind) m.mind.scope m.state))) (sym n)
          ∙ sym (ap (λ r. last_words m.before r (Asks jobs.items (λ rs. resumed m.mind.open_tests wait jobs.items rs (walk_inside plan (m.place + 1 + 0) m.mind) m.mind.scope m.state))) h.heeds)
          ∙ sym (ap (last_words m.before refused) (h.leads (λ k. walk plan (m.place + 1 + k)))) ∙ h.whole;
      shows = (refl, refl);
      outcome = refl;
      refusals = h.none h.heeds;
      before = h.before;
      fresh = refl;
      few = h.group.few;
      fits = record { awaits = h.group; replies = length-replicate (length jobs.items) None; place = h.place; counted = omega (arith, h.before, h.asks, h.counted) };
      ahead = omega (arith, h.asks);
    })
lands_by plan flow.Complete t old m refused run e h =
    let is : turn.Done ≡ t = cc in
    subst (λ x. Turned plan x old (arrived flow.Complete m)) is (record {
      same = sym (ap (last_words m.before refused) (h.leads (λ k. walk plan (m.place + 1 + k)))) ∙ h.whole;
      shows = (refl, h.jobs, refl);
      outcome = refl;
      refusals = h.none h.heeds;
      before = h.before;
      fresh = h.replies ∙ sym (ap (λ l. replicate (length l) None) h.jobs);
      few = omega (arith, ap length h.jobs);
      fits = record { jobs = ap length h.jobs; replies = ap length h.replies; place = omega (arith, h.place); counted = omega (arith, h.before, ap length h.jobs, h.counted) };
      ahead = omega (arith, ap length h.jobs);
    })
lands_by plan (flow.Stop status) t old m refused run e h =
    let is : turn.Stopped status ≡ t = cc in
    subst (λ x. Turned plan x old (arrived (flow.Stop status) m)) is (record {
      same = sym (ap (last_words m.before refused) (h.leads (λ k. walk plan (m.place + 1 + k)))) ∙ h.whole;
      shows = (refl, h.jobs, refl, refl);
      outcome = refl;
      refusals = h.none h.heeds;
      before = h.before;
      fresh = h.replies ∙ sym (ap (λ l. replicate (length l) None) h.jobs);
      few = omega (arith, ap length h.jobs);
      fits = record { jobs = ap length h.jobs; replies = ap length h.replies; place = omega (arith, h.place); counted = omega (arith, h.before, ap length h.jobs, h.counted) };
      ahead = omega (arith, ap length h.jobs);
    })
lands_by plan (flow.Cut number) t old m refused run e h =
    let is : turn.Cut number ≡ t = cc in
    subst (λ x. Turned plan x old (arrived (flow.Cut number) m)) is (record {
      same =
          sym (ap (λ r. last_words m.before r (Ends Cut (broken_all m.mind.open_tests Cut m.state))) h.heeds)
          ∙ sym (ap (last_words m.before refused) (h.leads (λ k. walk plan (m.place + 1 + k)))) ∙ h.whole;
      shows = (refl, h.jobs, refl);
      outcome = refl;
      refusals = h.cuts number h.heeds;
      before = h.before;
      fresh = h.replies ∙ sym (ap (λ l. replicate (length l) None) h.jobs);
      few = omega (arith, ap length h.jobs);
      fits = record { jobs = ap length h.jobs; replies = ap length h.replies; place = omega (arith, h.place); counted = omega (arith, h.before, ap length h.jobs, h.counted) };
      ahead = omega (arith, ap length h.jobs);
    })

pub lands : (plan : List Instruction) (f : Flow) (t : Turn) (old m new : Standing) (refused : Option ℕ) (run : (ℕ → Mind → State → Run) → Run) → turn_by f ≡ Some t → new ≡ arrived f m
    → Moves plan f old m refused run → Turned plan t old new
lands plan f t old m new refused run e is h = subst (Turned plan t old) (sym is) (lands_by plan f t old m refused run e h)

-- The loop of steps: the machine has come from `first` to `now`.
pub record Comes (plan : List Instruction) (first now : Standing) : Type 0 where
  pub same : walk plan now.place now.mind now.state ≡ walk plan first.place first.mind first.state
  pub jobs : now.jobs ≡ []
  pub replies : now.replies ≡ []
  pub before : now.before ≡ first.before
  pub inside : now.place ≤ length plan
  pub ahead : asks_after plan now.place ≤ asks_after plan first.place

-- A step has been done.
pub stepped : (steps : List Step) (s : Step) (f : Flow) (first now m : Standing) → now.place < length steps → s ≡ get_or steps now.place s
    → Rests (map instruction_of steps) (with_phase phase.Going first) → Comes (map instruction_of steps) first now
    → m ≡ record now { phase = phase.Failed; mind = m.mind; state = m.state }
    → asks_now f ≤ asks_of (instruction_of s) → IsGroup f → Heeds f None → Continues f (λ next. act (instruction_of s) next now.mind now.state) m.mind m.state
    → Moves (map instruction_of steps) f (with_phase phase.Going first) m None (λ next. act (instruction_of s) next now.mind now.state)
stepped steps s f first now m lt is rests h moved asks group heeds leads =
    let plan = map instruction_of steps in
    let place : m.place ≡ now.place = ap (λ x. x.place) moved in
    record {
      leads = leads;
      place = omega (arith, place, length-map steps instruction_of);
      jobs = ap (λ x. x.jobs) moved ∙ h.jobs;
      replies = ap (λ x. x.replies) moved ∙ h.replies;
      whole =
          ap (λ n. last_words n None (act (instruction_of s) (λ k. walk plan (m.place + 1 + k)) now.mind now.state)) (ap (λ x. x.before) moved ∙ h.before)
          ∙ ap (last_words first.before None) (ap (λ n. act (instruction_of s) (λ k. walk plan (n + 1 + k)) now.mind now.state) place
          ∙ sym (walk_at steps now.place s now.mind now.state lt is) ∙ h.same);
      heeds = heeds;
      group = group;
      before = omega (arith, ap (λ x. x.before) moved, h.before, rests.jobs);
      asks = omega (arith, asks, asks_here steps now.place s lt is, h.ahead, ap (λ n. asks_after plan (n + 1)) place);
      counted = rests.counted;
      none = λ e. no_refusal first.replies rests.replies;
      cuts = λ number e. cc;
    }

-- The step is passed.
pub passes_on : (steps : List Step) (s : Step) (f : Flow) (first now m new : Standing) → now.place < length steps → s ≡ get_or steps now.place s
    → Comes (map instruction_of steps) first now
    → m ≡ record now { phase = phase.Failed; mind = m.mind; state = m.state }
    → passed f ≤ reach (instruction_of s) → StaysInside (map instruction_of steps) → Continues f (λ next. act (instruction_of s) next now.mind now.state) m.mind m.state
    → turn_by f ≡ None → new ≡ arrived f m
    → Comes (map instruction_of steps) first new
passes_on steps s f first now m new lt is h moved within inside leads none arrives =
    let plan = map instruction_of steps in
    let e : new ≡ record m { place = m.place + (1 + passed f) } = arrives ∙ arrived_pass f m none in
    let place : m.place ≡ now.place = ap (λ x. x.place) moved in
    let n : m.place + (1 + passed f) ≡ now.place + 1 + passed f = omega arith in
    let m_place : m.place + (1 + passed f) ≡ now.place + (1 + passed f) = omega arith in
    record {
      same =
          ap (λ x. walk plan x.place x.mind x.state) e
          ∙ ap (λ k. walk plan k m.mind m.state) n
          ∙ sym (leads_pass f _ m.mind m.state none leads (λ k. walk plan (now.place + 1 + k)))
          ∙ sym (walk_at steps now.place s now.mind now.state lt is) ∙ h.same;
      jobs = ap (λ x. x.jobs) e ∙ ap (λ x. x.jobs) moved ∙ h.jobs;
      replies = ap (λ x. x.replies) e ∙ ap (λ x. x.replies) moved ∙ h.replies;
      before = ap (λ x. x.before) e ∙ ap (λ x. x.before) moved ∙ h.before;
      inside = omega (arith, ap (λ x. x.place) e, n, within, reach_at steps now.place s inside lt is, length-map steps instruction_of);
      ahead = omega (arith, ap (λ x. asks_after plan x.place) e, ap (asks_after plan) m_place, asks_on plan now.place (1 + passed f), h.ahead);
    }

-- After the last step.
pub past : (steps : List Step) (first now new : Standing) → length steps ≤ now.place → Rests (map instruction_of steps) (with_phase phase.Going first) → Comes (map instruction_of steps) first now
    → new ≡ with_phase phase.Past now → Turned (map instruction_of steps) turn.Done (with_phase phase.Going first) new
past steps first now new le rests h is =
    subst (Turned (map instruction_of steps) turn.Done (with_phase phase.Going first)) (sym is) (record {
      same = ap (last_words first.before None) (sym (walk_past steps now.place now.mind now.state le) ∙ h.same);
      shows = (refl, h.jobs, refl);
      outcome = refl;
      refusals = no_refusal first.replies rests.replies;
      before = omega (arith, h.before, rests.jobs);
      fresh = h.replies ∙ sym (ap (λ l. replicate (length l) None) h.jobs);
      few = omega (arith, ap length h.jobs);
      fits = record { jobs = ap length h.jobs; replies = ap length h.replies; place = omega (arith, h.inside); counted = omega (arith, h.before, ap length h.jobs, rests.counted) };
      ahead = omega (arith, ap length h.jobs);
    })

-- The number of the first refused child of the run, from that among the replies.
number_from : (before : ℕ) (later : Option ℕ) (number : ℕ) → option_map (λ k. before + k) later ≡ Some number → (k : ℕ) × (later ≡ Some k) × (number ≡ before + k)
number_from before None number e = cc
number_from before (Some k) number e = (k, refl, cc)

none_from : (before : ℕ) (later : Option ℕ) → option_map (λ k. before + k) later ≡ None → later ≡ None
none_from before None e = refl
none_from before (Some k) e = cc

-- The replies have been taken.
pub told_all : (plan : List Instruction) (f : Flow) (old m : Standing) → old.phase ≡ phase.Asking → Holds plan old
    → m ≡ record old { phase = phase.Failed; mind = mind_of m.mind.scope old.mind.open_tests; state = m.state; wait = waits.Nothing; before = old.before + length old.jobs; jobs = []; replies = [] }
    → asks_now f ≤ waits_for old.wait → IsGroup f → Heeds f (refused_after old.before (all_replies old.replies))
    → Leads f (λ tests next. resumed tests old.wait old.jobs (all_replies old.replies) (next 0) old.mind.scope old.state) m.mind.scope m.state
    → Moves plan f old m (refused_after old.before (all_replies old.replies)) (λ next. resumed old.mind.open_tests old.wait old.jobs (all_replies old.replies) (λ scope. next 0 (mind_of scope old.mind.open_tests)) old.mind.scope old.state)
told_all plan f old m asking holds moved asks group heeds leads =
    let place : m.place ≡ old.place = ap (λ x. x.place) moved in
    let n : m.place + 1 + 0 ≡ old.place + 1 = omega arith in
    let before : m.before ≡ old.before + length old.jobs = ap (λ x. x.before) moved in
    let left : asks_left plan old ≡ waits_for old.wait + asks_after plan (old.place + 1) = ap (λ p. asks_in p plan old) asking in
    record {
      leads = subst (λ x. Continues f (λ next. resumed old.mind.open_tests old.wait old.jobs (all_replies old.replies) (λ scope. next 0 (mind_of scope old.mind.open_tests)) old.mind.scope old.state) x m.state)
          (sym (ap (λ x. x.mind) moved))
          (continued f m.mind.scope old.mind.open_tests m.state (λ tests next. resumed tests old.wait old.jobs (all_replies old.replies) (next 0) old.mind.scope old.state) _ (λ next. refl) leads);
      place = omega (arith, place, holds.place);
      jobs = ap (λ x. x.jobs) moved;
      replies = ap (λ x. x.replies) moved;
      whole =
          ap (λ b. last_words b (refused_after old.before (all_replies old.replies)) (resumed old.mind.open_tests old.wait old.jobs (all_replies old.replies) (walk_inside plan (m.place + 1 + 0) old.mind) old.mind.scope old.state)) before
          ∙ ap (λ k. last_words (old.before + length old.jobs) (refused_after old.before (all_replies old.replies)) (resumed old.mind.open_tests old.wait old.jobs (all_replies old.replies) (walk_inside plan k old.mind) old.mind.scope old.state)) n
          ∙ sym (ap (λ p. left_in p plan old) asking);
      heeds = heeds;
      group = group;
      before = before;
      asks = omega (arith, asks, left, ap (λ k. asks_after plan (k + 1)) place);
      counted = holds.counted;
      none = none_from old.before (first_refused (all_replies old.replies));
      cuts = λ number e. subst (λ p. CutsAt p number old) (sym asking) (number_from old.before (first_refused (all_replies old.replies)) number e);
    }

refusals_after : (t : Turn) (old mid : Standing) → first_refused (all_replies old.replies) ≡ None → mid.replies ≡ [] → Refusals t (with_phase phase.Going mid) → Refusals t old
refusals_after turn.Ask old mid none empty h = none
refusals_after turn.Done old mid none empty h = none
refusals_after (turn.Stopped status) old mid none empty h = none
refusals_after (turn.Cut number) old mid none empty h = let e : None ≡ Some h.0 = sym (ap (λ l. first_refused (all_replies l)) empty) ∙ h.1 in cc

none_heard : (f : Flow) (refused : Option ℕ) → turn_by f ≡ None → Heeds f refused → refused ≡ None
none_heard (flow.Pass more) refused e h = h
none_heard (flow.Ask jobs wait) refused e h = cc
none_heard flow.Complete refused e h = cc
none_heard (flow.Stop status) refused e h = cc
none_heard (flow.Cut number) refused e h = cc

-- The replies have been taken, and the machine is before the next step.
pub record Onward (plan : List Instruction) (old mid : Standing) : Type 0 where
  pub none : first_refused (all_replies old.replies) ≡ None
  pub same : last_words mid.before None (walk plan mid.place mid.mind mid.state) ≡ run_left plan old
  pub jobs : mid.jobs ≡ []
  pub replies : mid.replies ≡ []
  pub before : mid.before ≡ old.before + length old.jobs
  pub inside : mid.place ≤ length plan
  pub ahead : asks_after plan mid.place ≤ asks_left plan old
  pub counted : old.before + (length old.jobs + asks_left plan old) ≤ asks_after plan 0

pub onward : (plan : List Instruction) (f : Flow) (old m mid : Standing) (refused : Option ℕ) (run : (ℕ → Mind → State → Run) → Run) → turn_by f ≡ None → mid ≡ arrived f m → passed f ≤ 0
    → Moves plan f old m refused run → Onward plan old mid
onward plan f old m mid refused run passes arrives within h =
    let e : mid ≡ record m { place = m.place + (1 + passed f) } = arrives ∙ arrived_pass f m passes in
    let n : m.place + (1 + passed f) ≡ m.place + 1 + passed f = omega arith in
    let none = none_heard f refused passes h.heeds in
    record {
      none = h.none none;
      same =
          ap (λ x. last_words x.before None (walk plan x.place x.mind x.state)) e ∙ ap (λ k. last_words m.before None (walk plan k m.mind m.state)) n
          ∙ sym (ap (λ r. last_words m.before r (walk plan (m.place + 1 + passed f) m.mind m.state)) none)
          ∙ sym (ap (last_words m.before refused) (leads_pass f run m.mind m.state passes h.leads (λ k. walk plan (m.place + 1 + k)))) ∙ h.whole;
      jobs = ap (λ x. x.jobs) e ∙ h.jobs;
      replies = ap (λ x. x.replies) e ∙ h.replies;
      before = ap (λ x. x.before) e ∙ h.before;
      inside = omega (arith, ap (λ x. x.place) e, n, within, h.place);
      ahead = omega (arith, ap (λ x. asks_after plan x.place) e, ap (asks_after plan) n, asks_on plan (m.place + 1) (passed f), h.asks);
      counted = h.counted;
    }

pub turned_after : (plan : List Instruction) (t : Turn) (old mid new : Standing) → Onward plan old mid → Turned plan t (with_phase phase.Going mid) new → Turned plan t old new
turned_after plan t old mid new h turned = record {
  same = turned.same ∙ h.same;
  shows = turned.shows;
  outcome = turned.outcome;
  refusals = refusals_after t old mid h.none h.replies turned.refusals;
  before = omega (arith, turned.before, ap length h.jobs, h.before);
  fresh = turned.fresh;
  few = turned.few;
  fits = turned.fits;
  ahead = omega (arith, turned.ahead, h.ahead);
}

pub turned_after_ok : (plan : List Instruction) (r : Result Turn AllocError) (old mid new : Standing) → Onward plan old mid → IfOk r (λ t. Turned plan t (with_phase phase.Going mid) new) → IfOk r (λ t. Turned plan t old new)
turned_after_ok plan (Ok t) old mid new h turned = turned_after plan t old mid new h turned
turned_after_ok plan (Err e) old mid new h turned = turned

-- Before the first step, the run that remains is the meaning of the statements that the plan does.
pub meant_at_first : (plan : List Instruction) (m : Standing) (script : Script) (st : State)
    → m ≡ record { phase = phase.Going; place = 0; mind = empty_mind; state = st; wait = waits.Nothing; before = 0; jobs = []; replies = [] }
    → DoesWhat plan script → run_at plan m ≡ whole (meaning script st)
meant_at_first plan m script st is does = ap (run_at plan) is ∙ ap whole (does st)
