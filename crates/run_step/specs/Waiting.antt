-- Which entries of a batch ask for a child, and what follows if there is nothing to ask for.
use Rattle.std.specs.Prelude.{ℕ, suc, Bool, true, false, not, ◌||◌, List, [], ◌∷◌, ◌++◌, Option, None, bytes_eq, map, option_to_list, reverse, if◌then◌else◌}
use Rattle.std.specs.List.{list_any}
use Rattle.crew_jobs.specs.declared.job.Job.{Job}
use Rattle.deftable.specs.Table.{value_of}
use Rattle.deftable.specs.declared.note.Stream.TheVariants as streams
use Rattle.shellword.specs.declared.part.Part.{Part}
use Rattle.ac_tree.specs.declared.listed.Listed.{Listed}
use Rattle.meaning.specs.State.{State, Run, Ends, Stopped, with_note}
use Rattle.meaning.specs.Asking.{no_compiler}
use Rattle.meaning.specs.Batches.{is_known, test_job}
use Rattle.meaning.specs.Forms.{form_name}
use Rattle.meaning.specs.Entries.{listed_form}
use Rattle.meaning.specs.Tests.{checking}
use Rattle.plan.specs.Broken.{broken_all}
use Rattle.test_forms.specs.Form.{TestForm}
use Rattle.run_forms.specs.Courses.{bare_course}
use Rattle.run_test.specs.Batched.{known_end}
use Rattle.run_test.specs.declared.wait.Waiting as waiting

-- One of the entries has this cached name. (own)
abbrev pub is_named : List ℕ → List waiting.Waiting → Bool
is_named name entries = list_any (λ e. bytes_eq name e.test.name) entries

-- The cached names of entries, the last one first. (own)
abbrev pub names_before : List waiting.Waiting → List (List ℕ)
names_before entries = reverse (map (λ e. e.test.name) entries)

-- The forms of the entries of a list. (own)
abbrev pub forms_in : Listed → List (List ℕ) → List TestForm
forms_in listed entries = map (λ entry. listed_form listed entry true) entries

-- The test of a form, given the names of earlier ones. (own)
abbrev pub waiting_at : List (List ℕ) → TestForm → State → waiting.Waiting
waiting_at earlier form st = record { test = bare_course form; asks = not (is_known (form_name form) earlier st) }

-- The tests of forms, of which each asks for a child if its name is unset, and is not that of an earlier one. (own)
abbrev pub waiting_for : List (List ℕ) → List TestForm → State → List waiting.Waiting
waiting_for earlier [] st = []
waiting_for earlier (form ∷ more) st = waiting_at earlier form st ∷ waiting_for (form_name form ∷ earlier) more st

-- The job of a test that asks, and was given these includes; its place in the list, from 1, is its number. (own)
abbrev pub job_at : Option (List Part) → ℕ → waiting.Waiting → State → Option Job
job_at includes place e st = if e.asks then test_job (record { form = e.test.form; given = includes }) place st else None

-- The jobs of these tests. (own)
abbrev pub jobs_of : Option (List Part) → ℕ → List waiting.Waiting → State → List Job
jobs_of includes place [] st = []
jobs_of includes place (e ∷ more) st = option_to_list (job_at includes place e st) ++ jobs_of includes (suc place) more st

-- An entry asks for a child. (own)
abbrev pub any_asks : List waiting.Waiting → Bool
any_asks [] = false
any_asks (e ∷ more) = e.asks || any_asks more

-- The state after the entries before the first that asks for a child. (own)
abbrev pub front_end : List waiting.Waiting → State → State
front_end [] st = st
front_end (e ∷ more) st = if e.asks then st else front_end more (known_end (value_of st.vars e.test.name) e.test (checking e.test.form.message st))

-- What follows inside these tests if nothing is asked for: an entry that asks for a child stops the run, since there is no
-- compiler. (Autoconf's manual, "Running the Compiler")
abbrev pub fronted : List (List ℕ) → List waiting.Waiting → (State → Run) → State → Run
fronted tests entries next st =
    if any_asks entries
    then Ends (Stopped 1) (broken_all tests (Stopped 1) (with_note streams.Err no_compiler (front_end entries st)))
    else next (front_end entries st)
