-- Steps, as what they are made of continues.
use Rattle.std.proofs.Common.{◌≡◌, ℕ, ◌<◌, ◌≤◌, Bool, true, false, cond, List, [], ◌∷◌, length, arith, Option, None, Some, Result, Ok, Err, IfOk, refl, sym, ap, ◌∙◌}
use Rattle.std.specs.Prelude.{not, ◌||◌}
use Rattle.std.specs.declared.alloc.AllocError.{AllocError}
use Rattle.shellword.specs.declared.part.Part.{Part}
use Rattle.ac_tree.specs.declared.listed.Listed.{Listed}
use Rattle.ac_tree.specs.declared.listed.Sought.{Sought}
use Rattle.crew_jobs.specs.declared.job.Job.{Job}
use Rattle.crew_jobs.specs.Probe.{run_of}
use Rattle.ac_tree.specs.declared.program.Program.{Program}
use Rattle.ac_tree.specs.declared.program.Try as kinds
use Rattle.ac_tree.specs.declared.program.Try.TheVariants as tries
use Rattle.ac_tree.specs.declared.statement.Effect.{Effect}
use Rattle.ac_tree.specs.declared.statement.Effect.TheVariants.{Search, Batch}
use Rattle.ac_tree.specs.declared.statement.ProgramValue.{ProgramValue}
use Rattle.ac_tree.specs.declared.statement.ProgramValue.TheVariants.{Text, FullName}
use Rattle.meaning.specs.State.{State, Scope, answered, Run, Ends, Goes_on, then_run}
use Rattle.meaning.specs.Asking.{child, compiled}
use Rattle.meaning.specs.Meaning.{effect, after_subject, check_prog, has_value, first_found, program_test}
use Rattle.meaning.specs.Forms.{FormTest}
use Rattle.meaning.specs.Entries.{sought_test}
use Rattle.meaning.specs.Rows.{TestKind, Formed}
use Rattle.plan.specs.Broken.{broken_all, guarded_all}
use Rattle.plan.specs.Inside.{asks_to_try}
use Rattle.plan.specs.Walk.{Mind, mind_of}
use Rattle.run_step.specs.BatchRuns.{list_run}
use Rattle.run_test.specs.declared.flow.Flow.{Flow}
use Rattle.run_test.specs.declared.wait.Wait.TheVariants as waits
use Rattle.run_test.specs.Flows.{Inside, Leads, Led, Continues}
use Rattle.run_test.specs.Runs.{kind_run, question_run, waiting_run}
use Rattle.run_test.specs.Starts.{Opens, program_kind}
use Rattle.run_test.specs.declared.trying.Opening.{Opening}
use Rattle.run_test.proofs.Flows.{continued, led}
use Rattle.run_test.proofs.Rows.{question_found}
use Rattle.run_step.specs.Openings.{search_kind, first_test}
use Rattle.run_step.specs.Runs.{own_run, looks_run, tries_run, first_job, found_run, round}

-- A test that is opened and started continues what its kind is.
pub opened : (f : Flow) (kind : TestKind) (o : Opening) (scope about : Scope) (st now : State) (run : Inside) → ((tests : List (List ℕ)) (next : ℕ → Scope → State → Run) → kind_run kind scope st tests next ≡ run tests next)
    → Opens kind st o → ((k : TestKind) → Opens k st o → Leads f (kind_run k scope st) about now) → Leads f run about now
opened f kind o scope about st now run e h leads = led f about now _ _ e (leads kind h)

-- The test of a program, by the value that its variable gets.
pub search_leads : (does : Effect) (variable program : List ℕ) (value : ProgramValue) (otherwise : Option (List Part)) (scope : Scope) (st : State) (tests : List (List ℕ)) (next : ℕ → Scope → State → Run)
    → does ≡ Search variable program value otherwise → kind_run (search_kind variable program value otherwise st) scope st tests next ≡ own_run does scope st tests next
unfolding effect
search_leads does variable program (Text text) otherwise scope st tests next is = sym (ap (λ x. own_run x scope st tests next) is)
search_leads does variable program FullName otherwise scope st tests next is = sym (ap (λ x. own_run x scope st tests next) is)

-- A program of a list that is looked for.
pub looks_leads : (variable program : List ℕ) (always own wanted : Bool) (scope : Scope) (st : State) (tests : List (List ℕ)) (next : ℕ → Scope → State → Run)
    → wanted ≡ (always || not own) → own ≡ has_value st variable → wanted ≡ true
    → kind_run (program_kind (check_prog variable program program None) (has_value st variable) st) scope st tests next ≡ looks_run variable program always scope st tests next
looks_leads variable program always own wanted scope st tests next is has yes_wanted =
    let e : (always || not (has_value st variable)) ≡ true = ap (λ b. always || not b) (sym has) ∙ sym is ∙ yes_wanted in
    sym (ap (λ b. then_run (guarded_all tests (cond b (program_test (check_prog variable program program None) (has_value st variable) st) (Ends Goes_on st))) (next 0 scope)) e)

-- A batch.
pub batch_leads : (does : Effect) (listed : Listed) (entries : List (List ℕ)) (includes : Option (List Part)) (scope : Scope) (st : State) (tests : List (List ℕ)) (next : ℕ → Scope → State → Run)
    → does ≡ Batch listed entries includes → list_run listed entries includes scope st tests next ≡ own_run does scope st tests next
unfolding effect
batch_leads does listed entries includes scope st tests next is = sym (ap (λ x. own_run x scope st tests next) is)

-- The test of a form as a question.
pub form_leads : (t : FormTest) (scope : Scope) (st : State) (tests : List (List ℕ)) (next : ℕ → Scope → State → Run) → kind_run (Formed t) scope st tests next ≡ found_run t st tests next
form_leads t scope st tests next = question_found t scope st tests next

pub first_leads : (what : Sought) (entries : List (List ℕ)) (includes : Option (List Part)) (scope : Scope) (st : State) (tests : List (List ℕ)) (next : ℕ → Scope → State → Run) → 0 < length entries
    → kind_run (Formed (first_test what entries includes)) scope st tests next ≡ first_found (broken_all tests) what entries includes st (next 0)
first_leads what [] includes scope st tests next some = absurd (omega (arith, some))
first_leads what (entry ∷ more) includes scope st tests next some = form_leads (sought_test what entry includes true) scope st tests next

pub round_leads : (what : Sought) (entry : List ℕ) (includes : Option (List Part)) (scope : Scope) (st : State) (tests : List (List ℕ)) (next : ℕ → Scope → State → Run)
    → kind_run (Formed (sought_test what entry includes true)) scope st tests next ≡ round what entry includes st tests next
unfolding after_subject
round_leads what entry includes scope st tests next = form_leads (sought_test what entry includes true) scope st tests next

pub continued_ok : (r : Result Flow AllocError) (c : Scope) (tests : List (List ℕ)) (st : State) (run : List (List ℕ) → (ℕ → Scope → State → Run) → Run) (step : (ℕ → Mind → State → Run) → Run)
    → ((next : ℕ → Mind → State → Run) → step next ≡ run tests (λ n scope. next n (mind_of scope tests)))
    → Led r run c st → IfOk r (λ f. Continues f step (mind_of c tests) st)
continued_ok (Ok f) c tests st run step e h = continued f c tests st run step e h
continued_ok (Err x) c tests st run step e h = h

-- A program that is tried.
pub one_asks : (kind : kinds.Try) → 1 ≤ asks_to_try kind
one_asks tries.Compile = omega arith
one_asks tries.Link = omega arith
one_asks tries.Preproc = omega arith
one_asks tries.Run = omega arith

pub tried_answers : (kind : kinds.Try) (program : Program) (scope : Scope) (st : State) (tests : List (List ℕ)) (next : ℕ → Scope → State → Run) (job : Job) → (kind ≡ tries.Run → ⊥) → first_job kind program st ≡ Some job
    → question_run job scope st tests next ≡ tries_run kind program scope st tests next
tried_answers tries.Compile program scope st tests next job no_run e = sym (ap (λ j. compiled (broken_all tests) j st (λ passed. next 0 (answered passed))) e)
tried_answers tries.Link program scope st tests next job no_run e = sym (ap (λ j. compiled (broken_all tests) j st (λ passed. next 0 (answered passed))) e)
tried_answers tries.Preproc program scope st tests next job no_run e = sym (ap (λ j. compiled (broken_all tests) j st (λ passed. next 0 (answered passed))) e)
tried_answers tries.Run program scope st tests next job no_run e = absurd (no_run refl)

pub tried_links : (kind : kinds.Try) (program : Program) (scope : Scope) (st : State) (tests : List (List ℕ)) (next : ℕ → Scope → State → Run) (job : Job) → kind ≡ tries.Run → first_job kind program st ≡ Some job
    → waiting_run waits.Link job scope st tests next ≡ tries_run kind program scope st tests next
tried_links kind program scope st tests next job run e =
    sym (ap (λ k. tries_run k program scope st tests next) run
    ∙ ap (λ j. compiled (broken_all tests) j st (λ linked now. cond linked (child (broken_all tests) (run_of 0) now (λ passed. next 0 (answered passed))) (next 0 (answered false) now))) (ap (λ k. first_job k program st) (sym run) ∙ e))
