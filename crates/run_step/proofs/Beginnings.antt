-- The beginning of a batch, from what its parts give.
use Rattle.std.proofs.Common.{◌≡◌, ℕ, ◌<◌, ◌≤◌, Vec, Global, List, [], length, sym, ap, ◌∙◌, subst, arith}
use Rattle.std.specs.Prelude.{Option}
use Rattle.crew_jobs.specs.declared.job.Job.{Job}
use Rattle.shellword.specs.declared.part.Part.{Part}
use Rattle.ac_tree.specs.declared.listed.Listed.{Listed}
use Rattle.meaning.specs.Batches.{batched}
use Rattle.meaning.specs.State.{State, Run, Asks, then_run}
use Rattle.plan.specs.Broken.{guarded_all}
use Rattle.run_test.specs.Waits.{Awaits, Suits}
use Rattle.run_test.specs.Batched.{after_entries, at_once, batch_end, is_refused}
use Rattle.run_test.specs.declared.wait.Waiting as waiting
use Rattle.run_test.specs.declared.wait.Wait.TheVariants as wait
use Rattle.meaning.specs.Entries.{tests_of}
use Rattle.run_step.specs.Waiting.{forms_in, fronted, jobs_of, waiting_for}
use Rattle.run_step.proofs.Committing.{at_once_is, batch_asks, batch_now, entries_may, few_jobs, few_waiting, forms_length, jobs_are, jobs_for, list_is}

-- The tests and the jobs of a list.
pub record Made (what : Listed) (list : List (List ℕ)) (given : Option (List Part)) (entries : List waiting.Waiting) (jobs : List Job) (st : State) : Type 0 where
  pub tests : entries ≡ waiting_for [] (forms_in what list) st
  pub jobs_is : jobs ≡ jobs_for given (forms_in what list) st

pub made : (what : Listed) (whole list : List (List ℕ)) (given : Option (List Part)) (entries view : List waiting.Waiting) (jobs : List Job) (st : State) → list ≡ whole → entries ≡ waiting_for [] (forms_in what list) st → view ≡ entries
    → jobs ≡ jobs_of given 1 view st → Made what whole given entries jobs st
made what whole list given entries view jobs st l e v j =
    let tests = e ∙ ap (λ x. waiting_for [] (forms_in what x) st) l in
    record { tests = tests; jobs_is = j ∙ ap (λ x. jobs_of given 1 x st) (v ∙ tests) ∙ jobs_are given 1 [] (forms_in what whole) st }

pub begins_now : (what : Listed) (list : List (List ℕ)) (given : Option (List Part)) (entries view : List waiting.Waiting) (jobs : List Job) (st : State) (tests : List (List ℕ)) (next : State → Run) → Made what list given entries jobs st → view ≡ entries → jobs ≡ []
    → fronted tests view next st ≡ then_run (guarded_all tests (batched (tests_of what list given) st)) next
begins_now what list given entries view jobs st tests next m v none =
    ap (λ l. fronted tests l next st) (v ∙ m.tests) ∙ sym (batch_now given (forms_in what list) tests st next (entries_may what list) (sym m.jobs_is ∙ none))
    ∙ sym (ap (λ l. then_run (guarded_all tests (batched l st)) next) (list_is what list given))

some_jobs : (what : Listed) (list : List (List ℕ)) (given : Option (List Part)) (entries : List waiting.Waiting) (jobs : List Job) (st : State) → Made what list given entries jobs st → 0 < length jobs → 0 < length (jobs_for given (forms_in what list) st)
some_jobs what list given entries jobs st m some = subst (λ l. 0 < length l) m.jobs_is some

pub begins_asking : (what : Listed) (list : List (List ℕ)) (given : Option (List Part)) (entries : List waiting.Waiting) (jobs : List Job) (st : State) (tests : List (List ℕ)) (next : State → Run) → Made what list given entries jobs st → 0 < length jobs
    → then_run (guarded_all tests (batched (tests_of what list given) st)) next ≡ Asks jobs (λ replies. batch_end tests (is_refused entries replies) next (after_entries entries jobs replies st))
begins_asking what list given entries jobs st tests next m some =
    let forms = forms_in what list in
    ap (λ l. then_run (guarded_all tests (batched l st)) next) (list_is what list given)
    ∙ batch_asks given forms tests st next (entries_may what list) (some_jobs what list given entries jobs st m some)
    ∙ ap (λ js. Asks js (λ replies. batch_end tests (is_refused (waiting_for [] forms st) replies) next (after_entries (waiting_for [] forms st) js replies st))) (sym m.jobs_is)
    ∙ ap (λ es. Asks jobs (λ replies. batch_end tests (is_refused es replies) next (after_entries es jobs replies st))) (sym m.tests)

pub few_asked : (what : Listed) (list : List (List ℕ)) (given : Option (List Part)) (entries : List waiting.Waiting) (jobs : List Job) (st : State) → Made what list given entries jobs st → 0 < length jobs → length jobs ≤ length list
few_asked what list given entries jobs st m some =
    omega (arith, ap length m.jobs_is, few_jobs given (forms_in what list) st (entries_may what list) (some_jobs what list given entries jobs st m some), forms_length what list)

pub few_made : (what : Listed) (list : List (List ℕ)) (given : Option (List Part)) (entries : List waiting.Waiting) (jobs : List Job) (st : State) → Made what list given entries jobs st → length entries ≡ length list
few_made what list given entries jobs st m = ap length m.tests ∙ few_waiting what list st

pub batch_awaits : (what : Listed) (list : List (List ℕ)) (given : Option (List Part)) (entries : Vec waiting.Waiting Global) (jobs : List Job) (st : State) → Made what list given entries.items jobs st → 0 < length jobs → length list ≤ 256 → Awaits (wait.Batch entries) jobs
unfolding Suits
batch_awaits what list given entries jobs st m some few = record {
  some = some;
  few = omega (arith, few, few_asked what list given entries.items jobs st m some);
  fit = ap length m.jobs_is ∙ at_once_is given (forms_in what list) st (entries_may what list) (some_jobs what list given entries.items jobs st m some) ∙ ap at_once (sym m.tests);
}
