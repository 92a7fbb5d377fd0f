-- What contracts see of a stream whose checks are counted. (own)
use Rattle.std.specs.Prelude.{Bool, ℕ, List, Option, Some, None, option_map, if◌then◌else◌}
use Rattle.crew_tally.specs.declared.tally.Tally.{Tally}
use Rattle.crew_tally.specs.Tallies.{none, after_text}

-- The stream below, and what is counted so far, if it counts. (own)
pub record Counted (W : Type 0) : Type 0 where
  pub stream : W
  pub tally : Option Tally

-- What is counted before the first text, if it counts. (own)
abbrev pub first : Bool → Option Tally
first is_counted = if is_counted then Some none else None

-- What is counted after a text that follows, if it counts. (own)
abbrev pub after_counted : Option Tally → List ℕ → Option Tally
after_counted counted text = option_map (λ t. after_text t text) counted
