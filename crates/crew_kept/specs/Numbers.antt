-- The numbers by which the crew inside counts its starts.
use Rattle.std.specs.Prelude.{ℕ, ◌+◌, ◌-◌, ◌==◌, ◌||◌, nat_lt, Bool, false, List, [], ◌∷◌, Option, None, Some, if◌then◌else◌}
use Rattle.crew_trait.specs.declared.event.CrewEvent.{CrewEvent}
use Rattle.crew_trait.specs.declared.event.CrewEvent.TheVariants.{Started, Ended}
use Rattle.crew_kept.specs.Taking.{Keeping}
use Rattle.crew_kept.specs.declared.placed.Step.{Step}
use Rattle.crew_kept.specs.declared.placed.Step.TheVariants.{Happened, Refusal}
use Rattle.crew_kept.specs.declared.placed.Placed.{Placed}

-- The number of the start of an event, if it is one. (own)
abbrev pub number_of : CrewEvent → Option ℕ
number_of (Started slot job number) = Some number
number_of (Ended slot reply number) = None

-- The number of the start of a step, if it is one. (own)
abbrev pub number_in : Step → Option ℕ
number_in (Happened event) = number_of event
number_in (Refusal number) = Some number

-- It is this number. (own)
abbrev pub is_number : ℕ → Option ℕ → Bool
is_number child None = false
is_number child (Some number) = number == child

-- It is a lower number: one, or none. (own)
abbrev pub is_lower : ℕ → Option ℕ → ℕ
is_lower child None = 0
is_lower child (Some number) = if nat_lt number child then 1 else 0

-- Some step is the start of this number. (own)
abbrev pub is_own : ℕ → List Placed → Bool
is_own child [] = false
is_own child (p ∷ ps) = is_number child (number_in p.step) || is_own child ps

-- The number of steps that are starts of lower numbers. (own)
abbrev pub own_below : ℕ → List Placed → ℕ
own_below child [] = 0
own_below child (p ∷ ps) = is_lower child (number_in p.step) + own_below child ps

-- What is known of why the child of a number was refused, from what the crew inside knows. It counts fewer starts, and it knows
-- nothing of a start that it didn't see. (own)
abbrev pub known_in : {C : Type 0} → (C → ℕ → Option (List ℕ)) → Keeping C → ℕ → Option (List ℕ)
known_in known k child = if is_own child k.placed then None else known k.crew (child - own_below child k.placed)
