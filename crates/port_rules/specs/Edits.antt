-- What a rule puts at a place.
use Rattle.std.specs.Prelude.{◌≡◌, ℕ, ◌≤◌, ◌==◌, ◌&&◌, Bool, true, false, List, [], ◌∷◌, length, take, bytes_eq, if◌then◌else◌}
use Rattle.ac_parts.specs.declared.kind.Part.{Part}
use Rattle.port_match.specs.declared.pattern.Pat.{Pat}
use Rattle.port_match.specs.declared.pattern.Bound.{Bound}
use Rattle.port_match.specs.Matches.{IsMatch}
use Rattle.port_rules.specs.declared.rule.Cond.{Cond}
use Rattle.port_rules.specs.declared.rule.Cond.TheVariants.{Same, Shows}
use Rattle.port_rules.specs.declared.rule.Put.{Put}
use Rattle.port_rules.specs.Fills.{slot_text, filled_onto}

-- The text is a `$` and another one.
abbrev pub shows : List ℕ → List ℕ → Bool
shows [] shown = false
shows (first ∷ rest) shown = first == 36 && bytes_eq rest shown

-- The condition holds.
abbrev pub holds : List ℕ → List Bound → Cond → Bool
holds text bounds (Same one other) = bytes_eq (slot_text text bounds one 0) (slot_text text bounds other 0)
holds text bounds (Shows one other) = shows (slot_text text bounds one 0) (slot_text text bounds other 0)

-- All conditions hold.
abbrev pub all_hold : List ℕ → List Bound → List Cond → Bool
all_hold text bounds [] = true
all_hold text bounds (cond ∷ conds) = if holds text bounds cond then all_hold text bounds conds else false

-- So many of the parts match the pattern, all conditions hold, and this is put. (own)
pub record IsEdit (text : List ℕ) (from : List Pat) (when : List Cond) (put : List Put) (parts : List Part) (count : ℕ) (bounds : List Bound) (out : List ℕ) : Type 0 where
  pub order : count ≤ length parts
  pub matches : IsMatch text from (take count parts) bounds
  pub holds_all : all_hold text bounds when ≡ true
  pub is : out ≡ filled_onto text bounds [] put
