-- How many children a crew has started.
use Rattle.std.specs.Prelude.{ℕ, ◌+◌, List, fold}
use Rattle.crew_trait.specs.declared.event.CrewEvent.{CrewEvent}
use Rattle.crew_trait.specs.declared.event.CrewEvent.TheVariants.{Started, Ended}

-- The number of starts that were taken, after an event. (own)
abbrev pub started_after : ℕ → CrewEvent → ℕ
started_after n (Started slot job number) = n + 1
started_after n (Ended slot reply number) = n

-- The number of starts that were taken. (own)
abbrev pub started_in : List CrewEvent → ℕ
started_in events = fold started_after 0 events
