-- Lemmas on the jobs that a crew of real children started.
use Rattle.std.proofs.Common.{◌≡◌, true, false, is_some, unwrap_or, fold, ℕ, ◌⊎◌, List, [], ◌∷◌, ◌++◌, refl, sym, ap, ◌∙◌, subst, Option, Some, None, inl, inr}
use Rattle.std.proofs.lemmas.List.{append-nil}
use Rattle.std.proofs.lemmas.List.Sums.{fold-append}
use Rattle.crew_jobs.specs.declared.job.Job.{Job}
use Rattle.crew_trait.specs.declared.event.CrewEvent.{CrewEvent}
use Rattle.crew_trait.specs.declared.event.CrewEvent.TheVariants.{Started, Ended}
use Rattle.crew_trait.specs.declared.reply.Reply.{Reply}
use Rattle.crew_launch.specs.Launch.{Adds, SystemCall, Spawned, Failed, failing, launch, writing}
use Rattle.crew.specs.Sound.{ListsBusy}
use Rattle.crew.specs.Runs.{Run, Runs, jobs_of, run_after}

-- the runs of a crew

jobs_of-append : (events more : List CrewEvent) → jobs_of (events ++ more) ≡ jobs_of events ++ jobs_of more
jobs_of-append [] more = refl
jobs_of-append (Started slot job number ∷ events) more = ap (λ jobs. job ∷ jobs) (jobs_of-append events more)
jobs_of-append (Ended slot reply number ∷ events) more = jobs_of-append events more

-- no file is left over, and these jobs were started
quiet : List Job → Run
quiet jobs = record { file = None; jobs = jobs }

launch_from : (file : Option (List ℕ × List ℕ)) (words : List (List ℕ)) (jobs : List Job) → fold run_after (quiet jobs) (writing file ++ Spawned words ∷ []) ≡ quiet (jobs ++ record { words = words; file = file } ∷ [])
unfolding quiet
launch_from None words jobs = refl
launch_from (Some file) words jobs = refl

failing_from : (file : Option (List ℕ × List ℕ)) (jobs : List Job) → fold run_after (quiet jobs) (writing file ++ Failed ∷ []) ≡ quiet jobs
unfolding quiet
failing_from None jobs = refl
failing_from (Some file) jobs = refl

runs_added : (calls new : Option (List SystemCall)) (more : List SystemCall) (events after : List CrewEvent) → Runs calls events → Adds calls new more → fold run_after (quiet (jobs_of events)) more ≡ quiet (jobs_of after) → Runs new after
unfolding quiet
runs_added None None more events after r adds step = record { same = λ known is. let clash : true ≡ false = ap is_some (sym is) in cc }
runs_added None (Some new) more events after r adds step = absurd adds
runs_added (Some old) None more events after r adds step = absurd adds
runs_added (Some old) (Some new) more events after r adds step =
    let start : Run = record { file = None; jobs = [] } in
    record {
      same = λ known is.
          let here : known ≡ old ++ more = ap (λ o. unwrap_or o []) (sym is) ∙ adds in
          ap (fold run_after start) here ∙ fold-append run_after start old more ∙ ap (λ run. fold run_after run more) (r.same old refl) ∙ step;
    }

-- no further request was made
runs_same : (calls new : Option (List SystemCall)) (events : List CrewEvent) → Runs calls events → Adds calls new [] → Runs new events
runs_same calls new events r adds = runs_added calls new [] events events r adds refl

pub runs_none : (calls : Option (List SystemCall)) (events : List CrewEvent) → Runs calls [] → events ≡ [] → Runs calls events
runs_none calls events r is = subst (Runs calls) (sym is) r

pub runs_ended : (calls : Option (List SystemCall)) (events new : List CrewEvent) (slot number : ℕ) (reply : Reply) → Runs calls events → new ≡ events ++ Ended slot reply number ∷ [] → Runs calls new
runs_ended calls events new slot number reply r is =
    let jobs : jobs_of new ≡ jobs_of events = ap jobs_of is ∙ jobs_of-append events (Ended slot reply number ∷ []) ∙ append-nil (jobs_of events) in
    record { same = λ known calls_is. r.same known calls_is ∙ ap (λ js. record { file = None; jobs = js }) (sym jobs) }

pub runs_started : (calls more : Option (List SystemCall)) (events new : List CrewEvent) (slot number : ℕ) (job kept : Job) → Runs calls events → Adds calls more (launch job) → kept ≡ job → new ≡ events ++ Started slot kept number ∷ [] → Runs more new
runs_started calls more events new slot number job kept r adds same is =
    let jobs : jobs_of new ≡ jobs_of events ++ kept ∷ [] = ap jobs_of is ∙ jobs_of-append events (Started slot kept number ∷ []) in
    let job_is : jobs_of events ++ job ∷ [] ≡ jobs_of new = ap (λ j. jobs_of events ++ j ∷ []) (sym same) ∙ sym jobs in
    runs_added calls more (launch job) events new r adds (launch_from job.file job.words (jobs_of events) ∙ ap quiet job_is)

pub runs_refused : (calls more : Option (List SystemCall)) (events new : List CrewEvent) (job : Job) → Runs calls events → Adds calls more [] ⊎ Adds calls more (failing job) → new ≡ events → Runs more new
runs_refused calls more events new job r (inl adds) is = subst (Runs more) (sym is) (runs_same calls more events r adds)
runs_refused calls more events new job r (inr adds) is = subst (Runs more) (sym is) (runs_added calls more (failing job) events events r adds (failing_from job.file (jobs_of events)))

pub lists_same : (slots new_slots : List ℕ) (events new_events : List CrewEvent) → ListsBusy slots events → new_slots ≡ slots → new_events ≡ events → ListsBusy new_slots new_events
lists_same slots new_slots events new_events lists s e = subst (λ es. ListsBusy new_slots es) (sym e) (subst (λ ss. ListsBusy ss events) (sym s) lists)
