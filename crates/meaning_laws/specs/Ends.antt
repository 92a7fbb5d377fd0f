-- What holds at the ends of a run.
use Rattle.std.specs.Prelude.{◌≡◌, List}
use Rattle.crew_trait.specs.declared.reply.Reply.{Reply}
use Rattle.meaning.specs.State.{State, How, Goes_on, Run, Ends, Asks}

-- This holds at each end of the run, of how it ends and in which state, whatever the replies. (own)
abbrev pub AtEnds : (How → State → Type 0) → Run → Type 0
AtEnds holds (Ends how st) = holds how st
AtEnds holds (Asks jobs next) = (replies : List Reply) → AtEnds holds (next replies)

-- The run doesn't continue: it completes, it stops, or it is cut short. (own)
abbrev pub Breaks : How → Type 0
Breaks how = how ≡ Goes_on → ⊥
