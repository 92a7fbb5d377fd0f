-- The matcher as a function.
use Rattle.std.specs.Prelude.{◌≡◌, ℕ, ◌-◌, ◌==◌, ◌&&◌, Bool, true, false, List, [], ◌∷◌, ◌++◌, length, leb, drop, reverse, Option, Some, None, if◌then◌else◌}
use Rattle.ac_parts.specs.declared.kind.Kind.{Kind}
use Rattle.ac_parts.specs.declared.kind.Part.{Part}
use Rattle.ac_parts.specs.Shapes.{is_kind}
use Rattle.port_match.specs.declared.pattern.Pat.{Pat}
use Rattle.port_match.specs.declared.pattern.Pat.TheVariants.{Open, Close, One, Named, Many, Gaps}
use Rattle.port_match.specs.declared.pattern.Piece.{Piece}
use Rattle.port_match.specs.declared.pattern.Bound.{Bound}
use Rattle.port_match.specs.Matches.{is_gap, is_named}

-- Where the matcher is: the parts that are left, how many of them are left at the end of each open part, the innermost first, and what
-- the slots have.
pub record At : Type 0 where
  pub left : List Part
  pub ends : List ℕ
  pub bounds : List Bound

-- The part is of a kind, and as many parts are left as are within it.
unfoldable pub is_whole : Kind → Part → List Part → Bool
is_whole kind part rest = is_kind part.kind kind && leb part.within (length rest)

abbrev pub one_step : Kind → ℕ → List Part → At → Option At
one_step kind slot [] at = None
one_step kind slot (part ∷ rest) at =
    if is_whole kind part rest then Some (record { left = drop part.within rest; ends = at.ends; bounds = at.bounds ++ record { slot = slot; part = part } ∷ [] })
    else None

abbrev pub open_step : Kind → List Part → At → Option At
open_step kind [] at = None
open_step kind (part ∷ rest) at = if is_whole kind part rest then Some (record { left = rest; ends = (length rest - part.within) ∷ at.ends; bounds = at.bounds }) else None

abbrev pub close_step : List ℕ → At → Option At
close_step [] at = None
close_step (end ∷ ends) at = if length at.left == end then Some (record { left = at.left; ends = ends; bounds = at.bounds }) else None

abbrev pub named_step : List ℕ → List ℕ → List Part → At → Option At
named_step text word [] at = None
named_step text word (part ∷ rest) at = if is_named text word part then Some (record { left = rest; ends = at.ends; bounds = at.bounds }) else None

-- The parts without the blanks that they begin with.
abbrev pub after_gaps : List Part → List Part
after_gaps [] = []
after_gaps (part ∷ rest) = if is_gap part then after_gaps rest else part ∷ rest

abbrev pub piece_after : Piece → List Part → Option (List Part)
piece_after it [] = None
piece_after it (part ∷ rest) = if is_whole it.0 part rest then Some (drop part.within rest) else None

abbrev pub next_by : (List Part → Bool) → Option (List Part) → Bool
next_by f None = false
next_by f (Some rest) = f rest

-- The parts begin with these pieces, one after the other.
abbrev pub are_next : List Piece → List Part → Bool
are_next [] parts = true
are_next (it ∷ pieces) parts = next_by (are_next pieces) (piece_after it parts)

abbrev pub then_to : (At → Option At) → Option At → Option At
then_to f None = None
then_to f (Some at) = f at

-- Where the matcher is after these pieces, one after the other.
abbrev pub pieces_to : List Piece → At → Option At
pieces_to [] at = Some at
pieces_to (it ∷ pieces) at = then_to (pieces_to pieces) (one_step it.0 it.1 at.left at)

-- Where the matcher is after these pieces again and again, at most once for each part of a list.
abbrev pub rounds : List Part → List Piece → At → Option At
rounds [] pieces at = Some at
rounds (turn ∷ turns) pieces at = if are_next pieces at.left then then_to (rounds turns pieces) (pieces_to pieces at) else Some at

-- Where the matcher is after an element of a pattern.
abbrev pub stepped : List ℕ → Pat → At → Option At
stepped text (One kind slot) at = one_step kind slot at.left at
stepped text (Open kind) at = open_step kind at.left at
stepped text Close at = close_step at.ends at
stepped text (Named word) at = named_step text word.now at.left at
stepped text (Many pieces) at = rounds at.left pieces.now at
stepped text Gaps at = Some (record { left = after_gaps at.left; ends = at.ends; bounds = at.bounds })

-- Where the matcher is after a pattern.
abbrev pub matched : List ℕ → List Pat → At → Option At
matched text [] at = Some at
matched text (pat ∷ pats) at = then_to (matched text pats) (stepped text pat at)

-- The place with these parts left.
abbrev pub at_of : List Part → List ℕ → List Bound → At
at_of left ends bounds = record { left = left; ends = reverse ends; bounds = bounds }
