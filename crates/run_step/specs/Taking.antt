-- Jobs and replies that are taken one after the other.
use Rattle.std.specs.Prelude.{◌≡◌, Bool, true, false, List, []}
use Rattle.crew_trait.specs.declared.reply.Reply.{Reply}
use Rattle.crew_trait.specs.declared.reply.Reply.TheVariants.{StartRefused}
use Rattle.crew_jobs.specs.declared.job.Job.{Job}
use Rattle.meaning.specs.Asking.{only_reply}
use Rattle.std.specs.Prelude.{drop, take}

-- The first job is taken, if the entry asked for one. (own)
abbrev pub Takes : Bool → List Job → List Job → List Job → Type 0
Takes true old new taken = (taken ≡ take 1 old) × (new ≡ drop 1 old)
Takes false old new taken = (taken ≡ []) × (new ≡ old)

-- The first reply is taken, if the entry asked for a child; a missing one is a refused start. (own)
abbrev pub TakesReply : Bool → List Reply → List Reply → Reply → Type 0
TakesReply true old new taken = (taken ≡ only_reply old) × (new ≡ drop 1 old)
TakesReply false old new taken = (taken ≡ StartRefused) × (new ≡ old)
