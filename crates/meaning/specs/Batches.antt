-- Lists of tests without actions: all children are asked for at once. That they are, and what becomes of the others if one is
-- refused, is own.
use Rattle.std.specs.Prelude.{◌≡◌, ℕ, suc, Bool, true, false, ◌||◌, List, [], ◌∷◌, Option, Some, None, codes, drop, is_some, bytes_eq, if◌then◌else◌}
use Rattle.std.specs.List.{list_any}
use Rattle.crew_jobs.specs.declared.job.Job.{Job}
use Rattle.crew_trait.specs.declared.reply.Reply.{Reply}
use Rattle.deftable.specs.Table.{value_of}
use Rattle.test_forms.specs.Form.{TestForm}
use Rattle.test_forms.specs.declared.form.TryForm.{TryForm}
use Rattle.meaning.specs.State.{State, with_child, with_variable, Goes_on, Completed, Stopped, Cut, Run, Ends, Asks, as_is}
use Rattle.meaning.specs.Asking.{success, only_reply, after_child}
use Rattle.meaning.specs.Forms.{FormTest, Table, form_name, form_used, snippet_job, value_in}
use Rattle.meaning.specs.Rows.{Formed, row_of}
use Rattle.meaning.specs.Tests.{Row, tested}

-- The job of the first try, with its number; none if there is no try or no compiler. (own)
abbrev pub first_job : List TryForm → List ℕ → Option (List ℕ) → ℕ → Table → Table → Option Job
first_job [] entry given number vars defs = None
first_job (t ∷ more) entry given number vars defs = snippet_job t.snippet entry given number vars defs

-- The same of a test in a statement. (own)
abbrev pub test_job : FormTest → ℕ → State → Option Job
test_job t number st = first_job t.form.tries t.form.entry (value_in t.given st) number st.vars st.defs

-- The name is set, or is among those of earlier tests. (own)
abbrev pub is_known : List ℕ → List (List ℕ) → State → Bool
is_known name earlier st = is_some (value_of st.vars name) || list_any (bytes_eq name) earlier

-- The job of a test, which is the first of its name and unset; its place in the list, from 1, is its number. (own)
abbrev pub job_for : FormTest → ℕ → List (List ℕ) → State → Option Job
job_for t place earlier st = if is_known (form_name t.form) earlier st then None else test_job t place st

-- The tests from this place on, each with the job that it asks for. (own)
abbrev pub asking : ℕ → List (List ℕ) → List FormTest → State → List (FormTest × Option Job)
asking place earlier [] st = []
asking place earlier (t ∷ more) st = (t, job_for t place earlier st) ∷ asking (suc place) (form_name t.form ∷ earlier) more st

-- The jobs that are asked for, in the order of the list. (own)
abbrev pub jobs_in : List (FormTest × Option Job) → List Job
jobs_in [] = []
jobs_in ((t, None) ∷ more) = jobs_in more
jobs_in ((t, Some job) ∷ more) = job ∷ jobs_in more

-- The jobs are asked for at once, if there are any. (own)
abbrev pub asks_all : List Job → (List Reply → Run) → Run
asks_all [] next = next []
asks_all (job ∷ jobs) next = Asks (job ∷ jobs) next

-- The row of a test with another body. (own)
abbrev pub with_body : (State → Run) → Row → Row
with_body body row = record row { test = record row.test { body = body } }

-- `yes` or `no`. (own)
abbrev pub yes_or_no : Bool → List ℕ
yes_or_no true = codes "yes"
yes_or_no false = codes "no"

-- The body of a test that has its reply. A test that asked for nothing, and whose name is still unset, has a name whose child
-- was refused. (own)
abbrev pub replied : List ℕ → Option Job → Reply → State → Run
replied name None reply st = Ends Cut st
replied name (Some job) reply st =
    after_child as_is (success reply) (with_child job reply st) (λ found now. Ends Goes_on (with_variable name (yes_or_no found) now))

-- The replies after that of a test. (own)
abbrev pub replies_after : Option Job → List Reply → List Reply
replies_after None replies = replies
replies_after (Some job) replies = drop 1 replies

-- A test that is ended: a cut keeps none of the others from being ended, and a stop does. (own)
abbrev pub commits : Run → Bool → (Bool → State → Run) → Run
commits (Ends Cut st) refused rest = rest true st
commits (Ends Goes_on st) refused rest = rest refused st
commits (Ends Completed st) refused rest = Ends Completed st
commits (Ends (Stopped status) st) refused rest = Ends (Stopped status) st
commits (Asks jobs next) refused rest = Asks jobs (λ replies. commits (next replies) refused rest)

-- The tests are ended in the order of the list, with their replies; the first state is that in which the batch begins. If one
-- was refused, the run is cut after the last. (own)
abbrev pub committed : State → List (FormTest × Option Job) → List Reply → Bool → State → Run
committed first [] replies true st = Ends Cut st
committed first [] replies false st = Ends Goes_on st
committed first ((t, job) ∷ more) replies refused st =
    commits
    (tested (with_body (replied (form_name t.form) job (only_reply replies)) (row_of (Formed t) first)) st)
    refused
    (committed first more (replies_after job replies))

-- The batch: each test that is the first of its name, and unset, asks for its child, all of them at once; then all tests are
-- ended. (own)
abbrev pub batched : List FormTest → State → Run
batched tests st =
    let asks : List (FormTest × Option Job) = asking 1 [] tests st in
    asks_all (jobs_in asks) (λ replies. committed st asks replies false st)

-- ---- which tests may be in a batch

-- The form has a first try, and what is done with its value sets no variable. (own)
pub record IsBatched (form : TestForm) : Type 0 where
  pub first : TryForm
  pub more : List TryForm
  pub is : form.tries ≡ first ∷ more
  pub vars : (value : Option (List ℕ)) (st : State) → (form_used form value st).vars ≡ st.vars

-- So has that of each of these tests. (own)
abbrev pub AreBatched : List FormTest → Type 0
AreBatched [] = Unit {0}
AreBatched (t ∷ more) = IsBatched t.form × AreBatched more
