-- The children in the log of a run.
use Rattle.std.specs.Prelude.{◌≡◌, List, [], ◌∷◌, ◌++◌, length, drop}
use Rattle.crew_jobs.specs.declared.job.Job.{Job}
use Rattle.crew_trait.specs.declared.entry.Entry.{Entry}
use Rattle.crew_trait.specs.declared.entry.Entry.TheVariants.{Said, Child}
use Rattle.crew_trait.specs.declared.reply.Reply.{Reply}
use Rattle.ac_tree.specs.Script.{Script}
use Rattle.meaning.specs.State.{State, Run, Ends, Asks}
use Rattle.meaning.specs.Asking.{only_reply}
use Rattle.meaning.specs.Play.{whole}
use Rattle.meaning.specs.Meaning.{meaning}

-- The children of a log, in order. (own)
abbrev pub children_of : List Entry → List (Job × Reply)
children_of [] = []
children_of (Said note ∷ more) = children_of more
children_of (Child job reply ∷ more) = (job, reply) ∷ children_of more

-- Jobs with their replies. (own)
abbrev pub paired : List Job → List Reply → List (Job × Reply)
paired [] replies = []
paired (job ∷ more) replies = (job, only_reply replies) ∷ paired more (drop 1 replies)

-- At each end of the run the children in the log are those before, and then the jobs that were asked for with their
-- replies, in order. (own)
abbrev pub Logs : List (Job × Reply) → Run → Type 0
Logs before (Ends how st) = children_of st.log ≡ before
Logs before (Asks jobs next) = (replies : List Reply) → length replies ≡ length jobs → Logs (before ++ paired jobs replies) (next replies)

-- The children in the log of a run are the jobs that were asked for with their replies, in order. (own)
abbrev pub ChildrenAreLogged : Type 0
ChildrenAreLogged = (script : Script) (st : State) → Logs (children_of st.log) (whole (meaning script st))
