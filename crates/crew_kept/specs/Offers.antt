-- What the records have for a start.
use Rattle.std.specs.Prelude.{◌≡◌, ℕ, List, Option, None, Some}
use Rattle.crew_jobs.specs.declared.job.Job.{Job}
use Rattle.crew_trait.specs.declared.reply.Reply.{Reply}
use Rattle.answers_text.specs.declared.record.Record.{Record}
use Rattle.crew_kept.specs.Records.{after_start, answer_of}
use Rattle.crew_kept.specs.declared.state.State.{State}
use Rattle.crew_kept.specs.declared.state.State.TheVariants.{Open, Differed}
use Rattle.crew_kept.specs.declared.supply.Offer.{Offer}
use Rattle.crew_kept.specs.declared.supply.Offer.TheVariants.{Nothing, Differs, Answer}

-- The reply of an offer. (own)
abbrev pub reply_in : Offer → Option Reply
reply_in Nothing = None
reply_in Differs = None
reply_in (Answer taken) = Some taken

-- How far replies are taken after an offer. (own)
abbrev pub state_in : Offer → State
state_in Nothing = Open
state_in Differs = Differed
state_in (Answer taken) = Open

-- The records offer this for the job at the start of this number. (own)
pub record IsOffer (records : List Record) (number : ℕ) (job : Job) (offer : Offer) : Type 0 where
  pub reply_is : answer_of Open records number job ≡ reply_in offer
  pub state_is : after_start Open records number job ≡ state_in offer
