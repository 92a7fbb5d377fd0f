-- Runs of batches, as functions of the tests around them and of what follows them.
use Rattle.std.specs.Prelude.{◌≡◌, ℕ, Bool, true, List, [], ◌∷◌, Option, option_to_list, reverse}
use Rattle.std.specs.Global.{Vec}
use Rattle.crew_trait.specs.declared.reply.Reply.{Reply}
use Rattle.crew_jobs.specs.declared.job.Job.{Job}
use Rattle.deftable.specs.Table.{value_of}
use Rattle.shellword.specs.declared.part.Part.{Part}
use Rattle.ac_tree.specs.declared.listed.Listed.{Listed}
use Rattle.meaning.specs.Batches.{batched}
use Rattle.meaning.specs.Entries.{tests_of}
use Rattle.meaning.specs.State.{State, Scope, then_run}
use Rattle.plan.specs.Broken.{guarded_all}
use Rattle.run_forms.specs.declared.course.FormCourse.{FormCourse}
use Rattle.run_test.specs.declared.wait.Waiting as waiting
use Rattle.run_test.specs.declared.wait.Wait.TheVariants as wait
use Rattle.meaning.specs.Tests.{checking}
use Rattle.run_test.specs.Batched.{after_entries, entry_end, known_end}
use Rattle.run_test.specs.Flows.{Inside}
use Rattle.run_test.specs.Waits.{all_replies, resumed}
use Rattle.run_step.specs.Waiting.{any_asks, front_end, fronted}

-- The run of a batch. (own)
abbrev pub list_run : Listed → List (List ℕ) → Option (List Part) → Scope → State → Inside
list_run listed entries includes scope st tests next = then_run (guarded_all tests (batched (tests_of listed entries includes) st)) (next 0 scope)

-- What follows if nothing is asked for. (own)
abbrev pub front_run : List waiting.Waiting → Scope → State → Inside
front_run entries scope st tests next = fronted tests entries (next 0 scope) st

-- What follows the replies to the jobs of a batch. (own)
abbrev pub end_run : Vec waiting.Waiting → List Job → List (Option Reply) → Scope → State → Inside
end_run batch jobs replies scope st tests next =
    resumed tests (wait.Batch batch) jobs (all_replies replies) (next 0) scope st

-- The state after an entry that asked for no child. (own)
abbrev pub quiet_end : FormCourse → State → State
quiet_end test st = known_end (value_of st.vars test.name) test (checking test.form.message st)

-- The state after an entry that asked for this job and got this reply. (own)
abbrev pub asked_end : FormCourse → Option Job → Reply → State → State
asked_end test job reply st = entry_end true test (option_to_list job) (reply ∷ []) st

-- The state after an entry; it asked for this job, if it asked. (own)
abbrev pub waiting_end : waiting.Waiting → Option Job → Reply → State → State
waiting_end entry job reply st = entry_end entry.asks entry.test (option_to_list job) (reply ∷ []) st

-- The state after all entries. A missing reply is a refused start. (own)
abbrev pub all_ended : List waiting.Waiting → List Job → List (Option Reply) → State → State
all_ended entries jobs replies st = after_entries entries jobs (all_replies replies) st

-- The replies, of which the last is taken first. (own)
abbrev pub given_last : List (Option Reply) → List Reply
given_last replies = all_replies (reverse replies)

-- The entries before the first that asks for a child have ended; the Boolean reports whether there is one. (own)
abbrev pub IsFronted : List waiting.Waiting → State → State → Bool → Type 0
IsFronted entries old new asks = (asks ≡ any_asks entries) × (new ≡ front_end entries old)
