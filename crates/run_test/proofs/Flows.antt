-- Flows, and what is waited for.
use Rattle.std.proofs.Common.{◌≡◌, ◌↔◌, ℕ, Bool, Option, None, Some, Vec, Global, ◌+◌, ◌<◌, ◌≤◌, true, List, [], ◌∷◌, length, Result, Ok, Err, IfOk, refl, sym, ap, ◌∙◌, subst, arith}
use Rattle.std.specs.declared.alloc.AllocError.{AllocError}
use Rattle.crew_jobs.specs.declared.job.Job.{Job}
use Rattle.crew_trait.specs.declared.reply.Reply.{Reply}
use Rattle.meaning.specs.State.{State, Scope, Run, Asks}
use Rattle.plan.specs.Walk.{Mind, mind_of}
use Rattle.run_test.specs.declared.flow.Flow.{Flow}
use Rattle.run_test.specs.declared.flow.Flow.TheVariants as flow
use Rattle.run_test.specs.Flows.{Inside, Leads, Led, Continues, IsStep}
use Rattle.run_test.specs.declared.wait.Wait.{Wait}
use Rattle.run_test.specs.declared.wait.Wait.TheVariants as wait
use Rattle.run_test.specs.declared.course.Trial.{Trial}
use Rattle.run_test.specs.declared.course.Course.{Course}
use Rattle.run_test.specs.Courses.{count_in, scope_in}
use Rattle.run_test.specs.Runs.{attempt_run, started_run}
use Rattle.run_test.specs.Trying.{known_in, left_in, moved}
use Rattle.run_test.specs.Waits.{Awaits, Suits, is_single, resumed, resumed_one, waits_for}

-- What is waited for, but a batch, is suited by one job alone.
pub single_suits : (w : Wait) (jobs : List Job) → is_single w ≡ true → Suits w jobs ↔ (length jobs ≡ 1)
unfolding Suits
single_suits (wait.Batch entries) jobs single = absurd cc
single_suits w jobs single = (λ one. one, λ one. one)

pub one_awaits : (w : Wait) (jobs : List Job) (job : Job) → is_single w ≡ true → jobs ≡ job ∷ [] → Awaits w jobs
one_awaits w jobs job single is = record { some = omega (arith, ap length is); few = omega (arith, ap length is); fit = (single_suits w jobs single).1 (ap length is) }

pub resumed_single : (tests : List (List ℕ)) (w : Wait) (jobs : List Job) (replies : List Reply) (next : Scope → State → Run) (c : Scope) (st : State) → is_single w ≡ true
    → resumed tests w jobs replies next c st ≡ resumed_one tests w jobs replies next c st
resumed_single tests (wait.Batch entries) jobs replies next c st single = absurd cc
resumed_single tests w jobs replies next c st single = refl

-- A flow that continues a run continues an equal one.
pub led : (f : Flow) (c : Scope) (st : State) (run run' : Inside) → ((tests : List (List ℕ)) (next : ℕ → Scope → State → Run) → run tests next ≡ run' tests next) → Leads f run c st → Leads f run' c st
led (flow.Pass more) c st run run' e h = λ tests next. sym (e tests next) ∙ h tests next
led (flow.Ask jobs wait) c st run run' e h = λ tests next. sym (e tests next) ∙ h tests next
led flow.Complete c st run run' e h = λ tests next. sym (e tests next) ∙ h tests next
led (flow.Stop status) c st run run' e h = λ tests next. sym (e tests next) ∙ h tests next
led (flow.Cut number) c st run run' e h = λ tests next. sym (e tests next) ∙ h tests next

pub led_as : (r : Result Flow AllocError) (c : Scope) (st : State) (run run' : Inside) → ((tests : List (List ℕ)) (next : ℕ → Scope → State → Run) → run tests next ≡ run' tests next)
    → Led r run c st → Led r run' c st
led_as (Ok f) c st run run' e h = led f c st run run' e h
led_as (Err x) c st run run' e h = h

-- A test whose name is set ends at once.
pub known_leads : (f : Flow) (value : Option (List ℕ)) (text : List ℕ) (c : Course) (scope about : Scope) (st now : State) → value ≡ Some text → f ≡ flow.Pass 0 → about ≡ scope_in c (Some text) scope → now ≡ known_in c (Some text) st
    → Leads f (started_run value c scope st) about now
known_leads f value text c scope about st now is passes answers ends =
    subst (λ v. Leads f (started_run v c scope st) about now) (sym is)
    (subst (λ x. Leads x (started_run (Some text) c scope st) about now) (sym passes)
    (λ tests next. ap (λ a. next 0 a (known_in c (Some text) st)) (sym answers) ∙ ap (next 0 about) (sym ends)))

-- A step that asks for one job.
pub asks_one : (w : Wait) (jobs : Vec Job Global) (job : Job) (few : ℕ) → is_single w ≡ true → jobs.items ≡ job ∷ [] → 1 + waits_for w ≤ few → IsStep few None (flow.Ask jobs w)
asks_one w jobs job few single is le =
    record { within = omega arith; asks = omega (arith, ap length is, le); group = one_awaits w jobs.items job single is; heeds = refl }

-- The job of an attempt, after which the next one may be made.
pub asks_moved : (trial went : Trial) (ends_on : Bool) (value : List ℕ) (jobs : Vec Job Global) (job : Job) → went ≡ moved trial → jobs.items ≡ job ∷ [] → trial.next < count_in trial.course
    → IsStep (left_in trial) None (flow.Ask jobs (wait.Attempt went ends_on value))
asks_moved trial went ends_on value jobs job is one lt =
    asks_one (wait.Attempt went ends_on value) jobs job (left_in trial) refl one (omega (arith, ap left_in is, lt))

pub led_moved : (trial went : Trial) (ends_on : Bool) (value : List ℕ) (jobs : Vec Job Global) (job : Job) (about : Scope) (st : State) (tests : List (List ℕ)) (next : ℕ → Scope → State → Run)
    → went ≡ moved trial → jobs.items ≡ job ∷ []
    → attempt_run (moved trial) job ends_on value about st tests next ≡ Asks jobs.items (λ replies. resumed tests (wait.Attempt went ends_on value) jobs.items replies (next 0) about st)
led_moved trial went ends_on value jobs job about st tests next is one =
    ap (λ (t : Trial). Asks (job ∷ []) (λ replies. resumed tests (wait.Attempt t ends_on value) (job ∷ []) replies (next 0) about st)) (sym is)
    ∙ ap (λ l. Asks l (λ replies. resumed tests (wait.Attempt went ends_on value) l replies (next 0) about st)) (sym one)

-- A step that may ask for fewer jobs.
pub fewer : (f : Flow) (n m : ℕ) (refused : Option ℕ) → n ≤ m → IsStep n refused f → IsStep m refused f
fewer f n m refused le h = record { within = h.within; asks = omega (arith, le, h.asks); group = h.group; heeds = h.heeds }

pub fewer_ok : (r : Result Flow AllocError) (n m : ℕ) (refused : Option ℕ) → n ≤ m → IfOk r (IsStep n refused) → IfOk r (IsStep m refused)
fewer_ok (Ok f) n m refused le h = fewer f n m refused le h
fewer_ok (Err e) n m refused le h = h

-- A run inside tests continues as it does inside any.
pub continued : (f : Flow) (c : Scope) (tests : List (List ℕ)) (st : State) (run : Inside) (step : (ℕ → Mind → State → Run) → Run)
    → ((next : ℕ → Mind → State → Run) → step next ≡ run tests (λ n scope. next n (mind_of scope tests)))
    → Leads f run c st → Continues f step (mind_of c tests) st
continued (flow.Pass more) c tests st run step e h = λ next. e next ∙ h tests _
continued (flow.Ask jobs wait) c tests st run step e h = λ next. e next ∙ h tests _
continued flow.Complete c tests st run step e h = λ next. e next ∙ h tests _
continued (flow.Stop status) c tests st run step e h = λ next. e next ∙ h tests _
continued (flow.Cut number) c tests st run step e h = λ next. e next ∙ h tests _
