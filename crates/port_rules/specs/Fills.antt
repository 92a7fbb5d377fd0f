-- What is put, with the slots filled in.
use Rattle.std.specs.Prelude.{ℕ, ◌+◌, ◌-◌, ◌==◌, ◌&&◌, ◌||◌, Bool, List, [], ◌∷◌, ◌++◌, length, reverse, leb, slice_range, Option, Some, None, if◌then◌else◌}
use Rattle.ac_parts.specs.declared.kind.Part.{Part}
use Rattle.port_match.specs.declared.pattern.Bound.{Bound}
use Rattle.port_rules.specs.declared.rule.Fill.{Fill}
use Rattle.port_rules.specs.declared.rule.Fill.TheVariants.{Text, Slot, Bare}
use Rattle.port_rules.specs.declared.rule.Put.{Put}
use Rattle.port_rules.specs.declared.rule.Put.TheVariants.{Once, Each}

-- The part of a slot with this number among these, or the last one: the first argument if none is left.
abbrev pub slot_at : Option Part → List Bound → ℕ → ℕ → Option Part
slot_at last [] slot number = last
slot_at last (bound ∷ bounds) slot number =
    if bound.slot == slot then (if number == 0 then Some bound.part else slot_at (Some bound.part) bounds slot (number - 1)) else slot_at last bounds slot number

-- A part of the text, or nothing if there is none.
abbrev pub between : List ℕ → ℕ → ℕ → List ℕ
between text start end = if leb start end && leb end (length text) then slice_range text start end else []

abbrev pub part_text : List ℕ → Option Part → List ℕ
part_text text None = []
part_text text (Some part) = between text part.start part.end

-- The text of a slot: that of its part with this number, or of its last one.
abbrev pub slot_text : List ℕ → List Bound → ℕ → ℕ → List ℕ
slot_text text bounds slot number = part_text text (slot_at None bounds slot number)

-- The byte is a blank, a newline or a `;`.
abbrev pub is_edge : ℕ → Bool
is_edge b = b == 32 || b == 9 || b == 13 || b == 10 || b == 59

-- The text without those that it begins with.
abbrev pub strip : List ℕ → List ℕ
strip [] = []
strip (b ∷ bs) = if is_edge b then strip bs else b ∷ bs

-- The text without those at its edges.
abbrev pub bare : List ℕ → List ℕ
bare text = reverse (strip (reverse (strip text)))

-- A text, or that of a slot.
abbrev pub fill_text : List ℕ → List Bound → ℕ → Fill → List ℕ
fill_text text bounds number (Text it) = it.now
fill_text text bounds number (Slot slot) = slot_text text bounds slot number
fill_text text bounds number (Bare slot) = bare (slot_text text bounds slot number)

-- A text with these after it.
abbrev pub fills_onto : List ℕ → List Bound → ℕ → List ℕ → List Fill → List ℕ
fills_onto text bounds number out [] = out
fills_onto text bounds number out (fill ∷ fills) = fills_onto text bounds number (out ++ fill_text text bounds number fill) fills

-- A text with these after it for each part of a slot, of which so many are behind.
abbrev pub each_onto : List ℕ → List Bound → ℕ → List Fill → ℕ → List ℕ → List Bound → List ℕ
each_onto text all slot fills number out [] = out
each_onto text all slot fills number out (bound ∷ bounds) =
    if bound.slot == slot then each_onto text all slot fills (number + 1) (fills_onto text all number out fills) bounds else each_onto text all slot fills number out bounds

-- A text with what an element puts after it.
abbrev pub put_onto : List ℕ → List Bound → List ℕ → Put → List ℕ
put_onto text bounds out (Once fill) = out ++ fill_text text bounds 0 fill
put_onto text bounds out (Each slot fills) = each_onto text bounds slot fills.now 0 out bounds

-- A text with what is put after it, with the slots filled in.
abbrev pub filled_onto : List ℕ → List Bound → List ℕ → List Put → List ℕ
filled_onto text bounds out [] = out
filled_onto text bounds out (put ∷ puts) = filled_onto text bounds (put_onto text bounds out put) puts
