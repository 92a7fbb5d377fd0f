-- The end of a batch, with the replies to its jobs.
use Rattle.std.specs.Prelude.{ℕ, suc, Bool, true, false, ◌||◌, List, [], ◌∷◌, Option, Some, None, drop, if◌then◌else◌}
use Rattle.crew_jobs.specs.declared.job.Job.{Job}
use Rattle.crew_trait.specs.declared.reply.Reply.{Reply}
use Rattle.deftable.specs.Table.{value_of}
use Rattle.meaning.specs.State.{State, with_child, Cut, Run, Ends}
use Rattle.meaning.specs.Asking.{success, only_reply}
use Rattle.meaning.specs.Tests.{broken, checking}
use Rattle.plan.specs.Broken.{broken_all}
use Rattle.run_test.specs.declared.wait.Waiting as waiting
use Rattle.run_forms.specs.Ends.{heard_end, known}
use Rattle.run_forms.specs.declared.course.FormCourse.{FormCourse}

-- The test ends with the value of its name; if there is none, its child was refused before. (own)
abbrev pub known_end : Option (List ℕ) → FormCourse → State → State
known_end None c st = broken c.name Cut st
known_end (Some value) c st = known c value st

-- The log gets the job that was asked for, with its reply. (own)
abbrev pub with_asked : List Job → List Reply → State → State
with_asked [] replies st = st
with_asked (job ∷ jobs) replies st = with_child job (only_reply replies) st

-- What is left of a list after the entry, which takes one if it asked. (own)
abbrev pub rest_after : {A : Type 0} → Bool → List A → List A
rest_after true xs = drop 1 xs
rest_after false xs = xs

-- The end of an entry of a batch: it asked for the first of these jobs, or for none. (own)
abbrev pub entry_end : Bool → FormCourse → List Job → List Reply → State → State
entry_end true c jobs replies st = heard_end (success (only_reply replies)) c (with_asked jobs replies (checking c.form.message st))
entry_end false c jobs replies st = known_end (value_of st.vars c.name) c (checking c.form.message st)

-- The state after the entries of a batch, in the order of the list. (own)
abbrev pub after_entries : List waiting.Waiting → List Job → List Reply → State → State
after_entries [] jobs replies st = st
after_entries (e ∷ more) jobs replies st =
    after_entries more (rest_after e.asks jobs) (rest_after e.asks replies) (entry_end e.asks e.test jobs replies st)

-- The reply is no answer. (own)
abbrev pub refuses : Option Bool → Bool
refuses None = true
refuses (Some succeeded) = false

-- The child of an entry was refused, if it asked for one. (own)
abbrev pub entry_refused : Bool → List Reply → Bool
entry_refused true replies = refuses (success (only_reply replies))
entry_refused false replies = false

-- A child of these entries was refused. (own)
abbrev pub is_refused : List waiting.Waiting → List Reply → Bool
is_refused [] replies = false
is_refused (e ∷ more) replies = entry_refused e.asks replies || is_refused more (rest_after e.asks replies)

-- How many children the entries asked for at once. (own)
abbrev pub at_once : List waiting.Waiting → ℕ
at_once [] = 0
at_once (e ∷ more) = if e.asks then suc (at_once more) else at_once more

-- The end of a batch inside these tests: the run is cut if a child was refused. (own)
abbrev pub batch_end : List (List ℕ) → Bool → (State → Run) → State → Run
batch_end tests true next st = Ends Cut (broken_all tests Cut st)
batch_end tests false next st = next st
