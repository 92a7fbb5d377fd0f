-- A run under given replies, with those that it takes and those that it leaves.
use Rattle.std.specs.Prelude.{◌≤◌, List, [], ◌++◌, length, take, drop}
use Rattle.crew_trait.specs.declared.reply.Reply.{Reply}
use Rattle.meaning.specs.State.{State, How, Run, Ends, Asks}

-- How a run ends, in which state, the replies that it took, and those that are left. (own)
pub record Finished : Type 0 where
  pub how : How
  pub state : State
  pub taken : List Reply
  pub left : List Reply

-- The same after other replies were taken. (own)
abbrev pub with_taken : List Reply → Finished → Finished
with_taken replies f = record f { taken = replies ++ f.taken }

-- A run under replies: each group of jobs takes as many of them as it has jobs. (own)
abbrev pub finish : Run → List Reply → Finished
finish (Ends how state) replies = record { how = how; state = state; taken = []; left = replies }
finish (Asks jobs next) replies =
    with_taken (take (length jobs) replies) (finish (next (take (length jobs) replies)) (drop (length jobs) replies))

-- There is a reply to each job that the run asks for. (own)
abbrev pub Enough : Run → List Reply → Type 0
Enough (Ends how state) replies = Unit {0}
Enough (Asks jobs next) replies =
    (length jobs ≤ length replies) × Enough (next (take (length jobs) replies)) (drop (length jobs) replies)
