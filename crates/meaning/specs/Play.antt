-- A run under given replies.
use Rattle.std.specs.Prelude.{ℕ, suc, ◌+◌, Bool, List, [], ◌∷◌, ◌++◌, Option, Some, None, option_map, length, take, drop, codes, decimal}
use Rattle.crew_jobs.specs.declared.job.Job.{Job}
use Rattle.crew_trait.specs.declared.reply.Reply.{Reply}
use Rattle.deftable.specs.declared.note.Stream.TheVariants as streams
use Rattle.meaning.specs.State.{State, with_note, How, Goes_on, Completed, Stopped, Cut, Run, Ends, Asks}
use Rattle.meaning.specs.Asking.{success}

-- How a run ends, in which state, and the groups of jobs that it asks for. (own)
pub record Played : Type 0 where
  pub how : How
  pub state : State
  pub groups : List (List Job)

-- The same, with these groups before its own. (own)
abbrev pub after : List (List Job) → Played → Played
after groups p = record { how = p.how; state = p.state; groups = groups ++ p.groups }

-- A run under replies: each group takes as many of them as it has jobs. (own)
abbrev pub play : Run → List Reply → Played
play (Ends how state) replies = record { how = how; state = state; groups = [] }
play (Asks jobs next) replies = after (jobs ∷ []) (play (next (take (length jobs) replies)) (drop (length jobs) replies))

-- All jobs, in order. (own)
abbrev pub all_jobs : List (List Job) → List Job
all_jobs [] = []
all_jobs (jobs ∷ groups) = jobs ++ all_jobs groups

-- The number of the first refused reply, given whether the first one is an answer. (own)
abbrev pub refused_here : Option Bool → Option ℕ → Option ℕ
refused_here None later = Some 1
refused_here (Some b) later = option_map suc later

-- The number of the first refused reply, from 1. (own)
abbrev pub first_refused : List Reply → Option ℕ
first_refused [] = None
first_refused (r ∷ rs) = refused_here (success r) (first_refused rs)

-- The number of the first refused child of a run, if it is among these replies; so many were asked for before. (own)
abbrev pub refused_after : ℕ → List Reply → Option ℕ
refused_after before replies = option_map (λ k. before + k) (first_refused replies)

-- The first number that there is. (own)
abbrev pub first_number : Option ℕ → Option ℕ → Option ℕ
first_number None later = later
first_number (Some number) later = Some number

-- The line of a run that is cut short at the child of this number. (own)
abbrev pub cut_line : ℕ → List ℕ
cut_line number = codes "configure: cut short at child " ++ decimal number ++ codes "\n"

-- The state of a run that is cut short, with its line. (own)
abbrev pub with_cut_line : Option ℕ → State → State
with_cut_line None st = st
with_cut_line (Some number) st = with_note streams.Err (cut_line number) st

-- A run that records at its end at which child it was cut short: so many jobs were asked for before, and `refused` is the
-- number of the first refused child among them. (own)
abbrev pub last_words : ℕ → Option ℕ → Run → Run
last_words before refused (Ends Cut st) = Ends Cut (with_cut_line refused st)
last_words before refused (Ends Goes_on st) = Ends Goes_on st
last_words before refused (Ends Completed st) = Ends Completed st
last_words before refused (Ends (Stopped status) st) = Ends (Stopped status) st
last_words before refused (Asks jobs next) =
    Asks jobs (λ replies. last_words (before + length jobs) (first_number refused (refused_after before replies)) (next replies))

-- A whole run, with that line. (own)
abbrev pub whole : Run → Run
whole run = last_words 0 None run
