-- The walk over a list of parts, as a function.
use Rattle.std.specs.Prelude.{◌≡◌, ℕ, ◌-◌, ◌==◌, ◌&&◌, Bool, true, false, List, [], ◌∷◌, length, reverse, ltb, leb, slice_range, Option, Some, None, if◌then◌else◌}
use Rattle.ac_parts.specs.declared.kind.Kind.TheVariants as kinds
use Rattle.ac_parts.specs.declared.kind.Part.{Part}
use Rattle.ac_parts.specs.declared.walk.Frame.{Frame}
use Rattle.ac_parts.specs.declared.walk.Walk.{Walk}
use Rattle.ac_parts.specs.Leaves.{is_leaf_text}
use Rattle.ac_parts.specs.Shapes.{is_leaf, next_state, may_end}

-- A place in a list: the innermost part that is open, those around it from the inside out, and the offset.
pub record Place : Type 0 where
  pub top : Frame
  pub below : List Frame
  pub at : ℕ

-- The pure value of a place.
abbrev pub place_of : Walk → Place
place_of w = record { top = w.top; below = reverse w.below.items; at = w.at }

-- A part that is open, of which nothing was seen yet.
abbrev pub opened : Part → Frame
opened part = record { kind = part.kind; state = 0; end = part.end; left = part.within }

abbrev pub followed_to : Frame → Part → Option ℕ → Option Frame
followed_to frame part None = None
followed_to frame part (Some state) = Some (record { kind = frame.kind; state = state; end = frame.end; left = frame.left - part.within - 1 })

-- The part that is open, after a part within it, if that may follow.
unfoldable pub followed : Frame → Part → Option Frame
followed frame part = if leb frame.left part.within then None else followed_to frame part (next_state frame.kind frame.state part.kind)

-- The part that is open may end here.
unfoldable pub ends_at : Frame → ℕ → Bool
ends_at frame at = frame.end == at && may_end frame.kind frame.state

-- A leaf is one of the text.
unfoldable pub is_leaf_of : List ℕ → Part → Bool
is_leaf_of text part = part.within == 0 && ltb part.start part.end && leb part.end (length text) && is_leaf_text part.kind (slice_range text part.start part.end)

-- The place after the parts have ended in which nothing is left, if each may end here. The outermost one stays.
abbrev pub closed : Frame → List Frame → ℕ → Option Place
closed top [] at = Some (record { top = top; below = []; at = at })
closed top (next ∷ below) at =
    if top.left == 0 then (if ends_at top at then closed next below at else None)
    else Some (record { top = top; below = next ∷ below; at = at })

-- The place after a part that follows in an open one.
abbrev pub within : List ℕ → Part → List Frame → Option Frame → Option Place
within text part below None = None
within text part below (Some frame) =
    if is_leaf part.kind then (if is_leaf_of text part then Some (record { top = frame; below = below; at = part.end }) else None)
    else Some (record { top = opened part; below = frame ∷ below; at = part.start })

-- The place after a part, where those that end before it have ended.
abbrev pub passed : List ℕ → Part → Option Place → Option Place
passed text part None = None
passed text part (Some place) = if part.start == place.at then within text part place.below (followed place.top part) else None

-- The place after the next part.
abbrev pub turned : List ℕ → Part → Place → Option Place
turned text part place = passed text part (closed place.top place.below place.at)

abbrev pub is_outermost : List Frame → Bool
is_outermost [] = true
is_outermost (next ∷ below) = false

-- Nothing is left in the outermost part, and it may end.
abbrev pub is_last : Option Place → Bool
is_last None = false
is_last (Some place) = is_outermost place.below && place.top.left == 0 && ends_at place.top place.at

abbrev pub goes_on : (Place → Bool) → Option Place → Bool
goes_on goes None = false
goes_on goes (Some place) = goes place

-- The parts end what is open at a place.
abbrev pub goes : List ℕ → List Part → Place → Bool
goes text [] place = is_last (closed place.top place.below place.at)
goes text (part ∷ parts) place = goes_on (goes text parts) (turned text part place)

-- The place at the start of a list of parts.
abbrev pub first : List ℕ → List Part → Place
first text parts = record { top = record { kind = kinds.Source; state = 0; end = length text; left = length parts }; below = []; at = 0 }

-- ---- what a call says

-- It says whether there is such a place, and where that is.
abbrev pub Leads : Bool → Option Place → Place → Type 0
Leads true o now = o ≡ Some now
Leads false o now = o ≡ None
