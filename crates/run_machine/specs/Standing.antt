-- The position of a machine in a plan.
use Rattle.std.specs.Prelude.{◌≡◌, ℕ, ◌+◌, ◌≤◌, List, [], length, replicate, Option, Some, None}
use Rattle.crew_jobs.specs.declared.job.Job.{Job}
use Rattle.crew_trait.specs.declared.reply.Reply.{Reply}
use Rattle.meaning.specs.State.{State, Scope, Goes_on, Completed, Stopped, Cut, Run, Ends, Asks}
use Rattle.plan.specs.Walk.{Instruction, Mind, walk}
use Rattle.plan.specs.Inside.{asks_after}
use Rattle.run_machine.specs.declared.machine.Phase.{Phase}
use Rattle.run_machine.specs.declared.machine.Phase.TheVariants as phase
use Rattle.run_machine.specs.declared.machine.Turn.{Turn}
use Rattle.run_machine.specs.declared.machine.Turn.TheVariants as turn
use Rattle.run_machine.specs.declared.machine.RunOutcome.{RunOutcome}
use Rattle.run_machine.specs.declared.machine.RunOutcome.TheVariants as outcome
use Rattle.run_test.specs.declared.wait.Wait.{Wait}
use Rattle.meaning.specs.Play.{first_refused, refused_after, last_words}
use Rattle.run_test.specs.Waits.{Awaits, all_replies, resumed, waits_for}

-- A machine, as contracts see it: its place is the number of steps that are passed; while it asks, `jobs` are asked
-- for, after `before` others, and `replies` has room for the reply to each. (own)
pub record Standing : Type 0 where
  pub phase : Phase
  pub place : ℕ
  pub mind : Mind
  pub state : State
  pub wait : Wait
  pub before : ℕ
  pub jobs : List Job
  pub replies : List (Option Reply)

-- The machine in another phase. (own)
abbrev pub with_phase : Phase → Standing → Standing
with_phase p m = record m { phase = p }

-- What follows the replies of a step, with the subject that they leave: the walk from this place on, inside the same
-- tests. (own)
abbrev pub walk_inside : List Instruction → ℕ → Mind → Scope → State → Run
walk_inside plan place mind scope st = walk plan place (record mind { scope = scope }) st

-- The run that remains for a machine once it has these replies to the jobs that it asks for. (own)
abbrev pub run_under : List Reply → List Instruction → Standing → Run
run_under replies plan m =
    last_words (m.before + length m.jobs) (refused_after m.before replies) (resumed m.mind.open_tests m.wait m.jobs replies (walk_inside plan (m.place + 1) m.mind) m.mind.scope m.state)

-- The run that remains for a machine: the walk from its place on, or its end, or the jobs that it asks for and what
-- follows their replies; once memory ran out, it has no meaning. If it is cut short, its last words are the line of the
-- cut. (own)
abbrev pub run_in : Phase → List Instruction → Standing → Run
run_in phase.Going plan m = last_words m.before None (walk plan m.place m.mind m.state)
run_in phase.Asking plan m = Asks m.jobs (λ replies. run_under replies plan m)
run_in phase.Past plan m = Ends Goes_on m.state
run_in phase.Completed plan m = Ends Completed m.state
run_in (phase.Stopped status) plan m = Ends (Stopped status) m.state
run_in (phase.Cut number) plan m = Ends Cut m.state
run_in phase.Failed plan m = last_words m.before None (walk plan m.place m.mind m.state)

-- The run that remains for a machine, in its own phase. (own)
abbrev pub run_at : List Instruction → Standing → Run
run_at plan m = run_in m.phase plan m

-- The run that remains once the given replies are taken. (own)
abbrev pub left_in : Phase → List Instruction → Standing → Run
left_in phase.Asking plan m = run_under (all_replies m.replies) plan m
left_in p plan m = run_in p plan m

-- The same, in the machine's own phase. (own)
abbrev pub run_left : List Instruction → Standing → Run
run_left plan m = left_in m.phase plan m

-- The turn reports this run: the jobs that it asks for, or the end that it has reached; a plan is done after its last
-- step, as one that is completed is. (own)
abbrev pub Shows : Turn → Run → Standing → Type 0
Shows turn.Ask (Asks jobs next) m = (m.phase ≡ phase.Asking) × (m.jobs ≡ jobs)
Shows turn.Done (Ends Goes_on st) m = (m.phase ≡ phase.Past) × (m.jobs ≡ []) × (m.state ≡ st)
Shows turn.Done (Ends Completed st) m = (m.phase ≡ phase.Completed) × (m.jobs ≡ []) × (m.state ≡ st)
Shows (turn.Stopped s) (Ends (Stopped status) st) m = (m.phase ≡ phase.Stopped status) × (m.jobs ≡ []) × (m.state ≡ st) × (s ≡ status)
Shows (turn.Cut number) (Ends Cut st) m = (m.phase ≡ phase.Cut number) × (m.jobs ≡ []) × (m.state ≡ st)
Shows t run m = ⊥

-- A cut reports the number of the first refused child of the run. (own)
abbrev pub CutsAt : Phase → ℕ → Standing → Type 0
CutsAt (phase.Cut k) number m = number ≡ k
CutsAt p number m = (k : ℕ) × (first_refused (all_replies m.replies) ≡ Some k) × (number ≡ m.before + k)

-- A turn is a cut exactly if a reply is refused. (own)
abbrev pub Refusals : Turn → Standing → Type 0
Refusals (turn.Cut number) m = CutsAt m.phase number m
Refusals turn.Ask m = first_refused (all_replies m.replies) ≡ None
Refusals turn.Done m = first_refused (all_replies m.replies) ≡ None
Refusals (turn.Stopped status) m = first_refused (all_replies m.replies) ≡ None

-- How many jobs may be asked for after those of now. (own)
abbrev pub asks_in : Phase → List Instruction → Standing → ℕ
asks_in phase.Going plan m = asks_after plan m.place
asks_in phase.Asking plan m = waits_for m.wait + asks_after plan (m.place + 1)
asks_in p plan m = 0

-- The same, in the machine's own phase. (own)
abbrev pub asks_left : List Instruction → Standing → ℕ
asks_left plan m = asks_in m.phase plan m

-- Jobs are asked for, with room for the reply to each; the place is before a step of the plan, and all jobs of the run
-- are jobs of the plan. (own)
pub record Holds (plan : List Instruction) (m : Standing) : Type 0 where
  pub awaits : Awaits m.wait m.jobs
  pub replies : length m.replies ≡ length m.jobs
  pub place : m.place + 1 ≤ length plan
  pub counted : m.before + (length m.jobs + asks_left plan m) ≤ asks_after plan 0

-- No job is asked for; the place is in the plan, and all jobs of the run are jobs of the plan. (own)
pub record Rests (plan : List Instruction) (m : Standing) : Type 0 where
  pub jobs : length m.jobs ≡ 0
  pub replies : length m.replies ≡ 0
  pub place : m.place ≤ length plan
  pub counted : m.before + (length m.jobs + asks_left plan m) ≤ asks_after plan 0

-- The machine was last advanced over this plan. (own)
abbrev pub fits_in : Phase → List Instruction → Standing → Type 0
fits_in phase.Asking plan m = Holds plan m
fits_in p plan m = Rests plan m

-- The same, in the machine's own phase. (own)
abbrev pub Fits : List Instruction → Standing → Type 0
Fits plan m = fits_in m.phase plan m

-- The outcome of the run, if the machine is at its end. (own)
abbrev pub outcome_of : Phase → Option RunOutcome
outcome_of phase.Past = Some outcome.Completed
outcome_of phase.Completed = Some outcome.Completed
outcome_of (phase.Stopped status) = Some (outcome.Stopped status)
outcome_of (phase.Cut number) = Some (outcome.CutShort number)
outcome_of p = None

-- The outcome that a turn reports, unless it asks for jobs. (own)
abbrev pub outcome_by : Turn → Option RunOutcome
outcome_by turn.Ask = None
outcome_by turn.Done = Some outcome.Completed
outcome_by (turn.Stopped status) = Some (outcome.Stopped status)
outcome_by (turn.Cut number) = Some (outcome.CutShort number)

-- A turn of a machine over a plan. (own)
pub record Turned (plan : List Instruction) (turn : Turn) (old new : Standing) : Type 0 where
  -- The run that remains is the one that was left, and the turn reports it.
  pub same : run_at plan new ≡ run_left plan old
  pub shows : Shows turn (run_at plan new) new
  pub outcome : outcome_of new.phase ≡ outcome_by turn
  pub refusals : Refusals turn old
  -- The jobs before count, none of those of now has a reply, and each was counted among those that were left.
  pub before : new.before ≡ old.before + length old.jobs
  pub fresh : new.replies ≡ replicate (length new.jobs) None
  -- At most 256 jobs are asked for at once.
  pub few : length new.jobs ≤ 256
  pub fits : Fits plan new
  pub ahead : length new.jobs + asks_left plan new ≤ asks_left plan old
