-- What is taken from the records of an earlier run.
use Rattle.std.specs.Prelude.{◌≡◌, ℕ, ◌+◌, ◌==◌, Bool, true, false, not, List, [], ◌∷◌, ◌++◌, Option, None, Some, is_some, bytes_eq, if◌then◌else◌}
use Rattle.crew_jobs.specs.declared.job.Job.{Job}
use Rattle.crew_trait.specs.declared.reply.Reply.{Reply}
use Rattle.crew_trait.specs.declared.reply.Reply.TheVariants.{Answer}
use Rattle.answers_text.specs.Texts.{job_text}
use Rattle.answers_text.specs.declared.record.Record.{Record}
use Rattle.crew_kept.specs.Links.{is_link}
use Rattle.crew_kept.specs.declared.state.State.{State}
use Rattle.crew_kept.specs.declared.state.State.TheVariants.{Open, Differed, Lacked}

-- The first record that has this number. (own)
abbrev pub first_of : ℕ → List Record → Option Record
first_of number [] = None
first_of number (r ∷ rs) = if r.number == number then Some r else first_of number rs

-- The job of this number may be taken for what comes after it: it links no program, or the records have the next start too. (own)
abbrev pub is_followed : List Record → ℕ → Job → Bool
is_followed records number job = if is_link job then is_some (first_of (number + 1) records) else true

-- The reply of this record, if its job is equal. (own)
abbrev pub answer_in : List Record → ℕ → Job → Option Record → Option Reply
answer_in records number job None = None
answer_in records number job (Some it) =
    if bytes_eq (job_text job) it.job then (if is_followed records number job then Some (Answer it.status it.text) else None) else None

-- This record is of another job. (own)
abbrev pub differs_in : Job → Option Record → Bool
differs_in job None = false
differs_in job (Some it) = not (bytes_eq (job_text job) it.job)

-- The reply that is taken for the job at the start of this number, if one is: that of the first record of the number, if its job is
-- equal. A link is taken only if the records have the start after it too. Once a job differed, or memory ran out, nothing is taken.
-- (own)
abbrev pub answer_of : State → List Record → ℕ → Job → Option Reply
answer_of Open records number job = answer_in records number job (first_of number records)
answer_of Differed records number job = None
answer_of Lacked records number job = None

-- How far replies are taken after the start of this number. (own)
abbrev pub after_start : State → List Record → ℕ → Job → State
after_start Open records number job = if differs_in job (first_of number records) then Differed else Open
after_start Differed records number job = Differed
after_start Lacked records number job = Lacked

-- What is known after a start that wasn't taken: there is no reply for it, or memory ran out. (own)
pub data MayPass (records : List Record) (number : ℕ) (job : Job) : State → State → Type 0 where
  passes : {state : State} → answer_of state records number job ≡ None → MayPass records number job state (after_start state records number job)
  lacks : {state : State} → MayPass records number job state Lacked

-- One of the records has this number. (own)
pub record IsOf (records : List Record) (number : ℕ) (it : Record) : Type 0 where
  pub earlier : List Record
  pub later : List Record
  pub is_one : records ≡ earlier ++ it ∷ later
  pub number_is : it.number ≡ number

-- Some record has this number. (own)
pub record HasNumber (records : List Record) (number : ℕ) : Type 0 where
  pub it : Record
  pub is_of : IsOf records number it

-- The records have this reply for the job at the start of this number. If the job links a program, they also have the start after
-- it. (own)
pub record HasReply (records : List Record) (number : ℕ) (job : Job) (reply : Reply) : Type 0 where
  pub it : Record
  pub is_of : IsOf records number it
  pub job_is : it.job ≡ job_text job
  pub reply_is : reply ≡ Answer it.status it.text
  pub followed : is_link job ≡ true → HasNumber records (number + 1)

-- One record alone has this number. (own)
pub record IsOnlyOf (records : List Record) (number : ℕ) (it : Record) : Type 0 where
  pub is_of : IsOf records number it
  pub alone : (other : Record) → IsOf records number other → other ≡ it
