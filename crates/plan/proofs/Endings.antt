-- What follows the end of a run, and what is done there.
use Rattle.std.proofs.Common.{◌≡◌, ℕ, Option, Some, None, List, [], ◌∷◌, Bool, true, false, refl, ap, ◌∙◌}
use Rattle.std.proofs.Math.Path.{fun_ext}
use Rattle.crew_jobs.specs.declared.job.Job.{Job}
use Rattle.crew_jobs.specs.Probe.{run_of, job_of}
use Rattle.crew_trait.specs.declared.reply.Reply.{Reply}
use Rattle.deftable.specs.Table.{value_of}
use Rattle.deftable.specs.declared.note.Stream.TheVariants.{Err}
use Rattle.shellword.specs.declared.part.Part.{Part}
use Rattle.ac_tree.specs.declared.feature.OptionKind.{OptionKind}
use Rattle.ac_tree.specs.declared.statement.Question as asks
use Rattle.ac_tree.specs.declared.statement.Question.TheVariants as questions
use Rattle.ac_tree.specs.declared.statement.Question.TheVariants.{Given, Tries, Checks, ChecksEach}
use Rattle.ac_tree.specs.declared.listed.Sought.{Sought}
use Rattle.ac_tree.specs.declared.program.Try as kinds
use Rattle.ac_tree.specs.declared.program.Try.TheVariants as kinds_are
use Rattle.ac_tree.specs.declared.tree.Subject as what
use Rattle.ac_tree.specs.declared.tree.Subject.TheVariants.{Nothing, Word, Asked}
use Rattle.meaning.specs.State.{State, Scope, answered, with_note, with_child, How, Goes_on, Completed, Stopped, Cut, Run, Ends, Asks, then_run, ended}
use Rattle.meaning.specs.Meaning.{after_option, found_by, first_found, after_question, after_subject}
use Rattle.meaning.specs.Forms.{FormTest, form_name, says_found}
use Rattle.meaning.specs.Entries.{sought_test, library_test, search_test}
use Rattle.meaning.specs.Rows.{row_of, Formed}
use Rattle.meaning.specs.Asking.{success, only_reply, after_child, child, no_compiler, compiled}
use Rattle.meaning.specs.Tries.{first_probe, after_first, text_of}
use Rattle.meaning.specs.Tests.{broken, guarded, tested}
use Rattle.plan.specs.Broken.{broken_all, guarded_all}

-- What follows what follows.
pub then_then : (r : Run) (f g : State → Run) → then_run (then_run r f) g ≡ then_run r (λ st. then_run (f st) g)
then_then (Ends Goes_on st) f g = refl
then_then (Ends Completed st) f g = refl
then_then (Ends (Stopped s) st) f g = refl
then_then (Ends Cut st) f g = refl
then_then (Asks jobs ask) f g = ap (Asks jobs) (fun_ext (λ replies. then_then (ask replies) f g))

pub then_ends : (r : Run) → then_run r (Ends Goes_on) ≡ r
then_ends (Ends Goes_on st) = refl
then_ends (Ends Completed st) = refl
then_ends (Ends (Stopped s) st) = refl
then_ends (Ends Cut st) = refl
then_ends (Asks jobs ask) = ap (Asks jobs) (fun_ext (λ replies. then_ends (ask replies)))

-- Tests do nothing to a run that continues.
pub guarded_then : (tests : List (List ℕ)) (r : Run) (f : State → Run) → guarded_all tests (then_run r f) ≡ then_run (guarded_all tests r) (λ st. guarded_all tests (f st))
guarded_then tests (Ends Goes_on st) f = refl
guarded_then tests (Ends Completed st) f = refl
guarded_then tests (Ends (Stopped s) st) f = refl
guarded_then tests (Ends Cut st) f = refl
guarded_then tests (Asks jobs ask) f = ap (Asks jobs) (fun_ext (λ replies. guarded_then tests (ask replies) f))

-- A test inside others.
inner : (tests : List (List ℕ)) (name : List ℕ) (how : How) (st : State) → broken_all tests how (broken name how st) ≡ broken_all (name ∷ tests) how st
inner tests name Goes_on st = refl
inner tests name Completed st = refl
inner tests name (Stopped s) st = refl
inner tests name Cut st = refl

pub inner_is : (tests : List (List ℕ)) (name : List ℕ) → (λ (how : How) (st : State). broken_all tests how (broken name how st)) ≡ broken_all (name ∷ tests)
inner_is tests name = fun_ext (λ how. fun_ext (inner tests name how))

pub ended_ended : (outer inner : How → State → State) (r : Run) → ended outer (ended inner r) ≡ ended (λ how st. outer how (inner how st)) r
ended_ended outer inner (Ends how st) = refl
ended_ended outer inner (Asks jobs ask) = ap (Asks jobs) (fun_ext (λ replies. ended_ended outer inner (ask replies)))

-- A run inside a test, inside others.
pub guarded_inner : (tests : List (List ℕ)) (name : List ℕ) (r : Run) → guarded_all tests (guarded name r) ≡ guarded_all (name ∷ tests) r
guarded_inner tests name r = ended_ended (broken_all tests) (broken name) r ∙ ap (λ early. ended early r) (inner_is tests name)

pub guarded_none : (r : Run) → guarded_all [] r ≡ r
guarded_none (Ends Goes_on st) = refl
guarded_none (Ends Completed st) = refl
guarded_none (Ends (Stopped s) st) = refl
guarded_none (Ends Cut st) = refl
guarded_none (Asks jobs ask) = ap (Asks jobs) (fun_ext (λ replies. guarded_none (ask replies)))

-- Something is done to a run at its ends: if it doesn't continue, the state changes otherwise.
pub record Carries (f : Run → Run) (early other : How → State → State) : Type 0 where
  pub goes : (st : State) → early Goes_on st ≡ other Goes_on st
  pub completed : (st : State) → f (Ends Completed (early Completed st)) ≡ Ends Completed (other Completed st)
  pub asks : (jobs : List Job) (ask : List Reply → Run) → f (Asks jobs ask) ≡ Asks jobs (λ replies. f (ask replies))
  pub cut : (st : State) → f (Ends Cut (early Cut st)) ≡ Ends Cut (other Cut st)
  pub stopped : (s : ℕ) (st : State) → f (Ends (Stopped s) (early (Stopped s) st)) ≡ Ends (Stopped s) (other (Stopped s) st)

pub then_carries : (early : How → State → State) (next : State → Run) → Carries (λ r. then_run r next) early early
then_carries early next = record { goes = λ st. refl; completed = λ st. refl; asks = λ jobs ask. refl; cut = λ st. refl; stopped = λ s st. refl }

pub ended_carries : (tests : List (List ℕ)) (early : How → State → State) → Carries (guarded_all tests) early (λ how st. broken_all tests how (early how st))
ended_carries tests early = record { goes = λ st. refl; completed = λ st. refl; asks = λ jobs ask. refl; cut = λ st. refl; stopped = λ s st. refl }

heard_carried : (f : Run → Run) (early other : How → State → State) → Carries f early other → (answer : Option Bool) (st : State) (go : Bool → State → Run)
    → f (after_child early answer st go) ≡ after_child other answer st (λ b now. f (go b now))
heard_carried f early other c None st go = c.cut st
heard_carried f early other c (Some b) st go = refl

child_carried : (f : Run → Run) (early other : How → State → State) → Carries f early other → (job : Job) (st : State) (go : Bool → State → Run)
    → f (child early job st go) ≡ child other job st (λ b now. f (go b now))
child_carried f early other c job st go = c.asks _ _ ∙ ap (Asks (job ∷ [])) (fun_ext (λ replies. heard_carried f early other c (success (only_reply replies)) (with_child job (only_reply replies) st) go))

pub compiled_carried : (f : Run → Run) (early other : How → State → State) → Carries f early other → (job : Option Job) (st : State) (go : Bool → State → Run)
    → f (compiled early job st go) ≡ compiled other job st (λ b now. f (go b now))
compiled_carried f early other c None st go = c.stopped 1 (with_note Err no_compiler st)
compiled_carried f early other c (Some job) st go = child_carried f early other c job st go

first_carried : (f : Run → Run) (early other : How → State → State) → Carries f early other → (kind : kinds.Try) (go : Bool → State → Run) (b : Bool) (st : State)
    → f (after_first early kind go b st) ≡ after_first other kind (λ passed now. f (go passed now)) b st
first_carried f early other c kinds_are.Run go true st = child_carried f early other c (run_of 0) st go
first_carried f early other c kinds_are.Run go false st = refl
first_carried f early other c kinds_are.Compile go b st = refl
first_carried f early other c kinds_are.Link go b st = refl
first_carried f early other c kinds_are.Preproc go b st = refl

given_carried : (f : Run → Run) (value : Option (List ℕ)) (kind : OptionKind) (st : State) (go : Scope → State → Run) → f (after_option value kind st go) ≡ after_option value kind st (λ scope now. f (go scope now))
given_carried f None kind st go = refl
given_carried f (Some value) kind st go = refl

-- A run that comes before what follows.
run_carried : (f : Run → Run) (early other : How → State → State) → Carries f early other → (r : Run) (go : State → Run)
    → f (then_run (ended early r) go) ≡ then_run (ended other r) (λ now. f (go now))
run_carried f early other c (Ends Goes_on st) go = ap (λ s. f (go s)) (c.goes st)
run_carried f early other c (Ends Completed st) go = c.completed st
run_carried f early other c (Ends (Stopped s) st) go = c.stopped s st
run_carried f early other c (Ends Cut st) go = c.cut st
run_carried f early other c (Asks jobs ask) go =
    c.asks jobs (λ replies. then_run (ended early (ask replies)) go) ∙ ap (Asks jobs) (fun_ext (λ replies. run_carried f early other c (ask replies) go))

found_carried : (f : Run → Run) (early other : How → State → State) → Carries f early other → (t : FormTest) (st : State) (go : Scope → State → Run)
    → f (found_by early t st go) ≡ found_by other t st (λ scope now. f (go scope now))
found_carried f early other c t st go =
    run_carried f early other c (tested (row_of (Formed t) st) st) (λ now. go (answered (says_found t.form.says (value_of now.vars (form_name t.form)))) now)

first_found_carried : (f : Run → Run) (early other : How → State → State) → Carries f early other
    → (sought : Sought) (entries : List (List ℕ)) (includes : Option (List Part)) (st : State) (go : Scope → State → Run)
    → f (first_found early sought entries includes st go) ≡ first_found other sought entries includes st (λ scope now. f (go scope now))
first_found_carried f early other c sought [] includes st go = refl
first_found_carried f early other c sought (entry ∷ more) includes st go = found_carried f early other c (sought_test sought entry includes true) st go

asked_carried : (f : Run → Run) (early other : How → State → State) → Carries f early other → (question : asks.Question) (st : State) (go : Scope → State → Run)
    → f (after_question early question st go) ≡ after_question other question st (λ scope now. f (go scope now))
asked_carried f early other c (Given kind variable) st go = given_carried f (value_of st.vars variable) kind st go
asked_carried f early other c (Tries kind program) st go =
    let job = job_of (first_probe kind (text_of program st.vars)) 0 st.vars st.defs in
    compiled_carried f early other c job st _ ∙ ap (compiled other job st) (fun_ext (λ b. fun_ext (λ now. first_carried f early other c kind (λ passed. go (answered passed)) b now)))
asked_carried f early other c (Checks sought entry includes) st go = found_carried f early other c (sought_test sought entry includes false) st go
asked_carried f early other c (ChecksEach sought entries includes) st go = first_found_carried f early other c sought entries includes st go
asked_carried f early other c (questions.Library library function others adds) st go = found_carried f early other c (library_test library function others adds) st go
asked_carried f early other c (questions.Libraries function libraries others) st go = found_carried f early other c (search_test function libraries others) st go

-- The beginning of a choice.
pub begun_carried : (f : Run → Run) (early other : How → State → State) → Carries f early other → (subject : what.Subject) (st : State) (go : Scope → State → Run)
    → f (after_subject early subject st go) ≡ after_subject other subject st (λ scope now. f (go scope now))
unfolding after_subject
begun_carried f early other c Nothing st go = refl
begun_carried f early other c (Word word) st go = refl
begun_carried f early other c (Asked question) st go = asked_carried f early other c question st go
