-- Worked examples. In those of lists all premises of `places_of` hold together.
use Rattle.std.proofs.Common.{◌≡◌, ℕ, ◌+◌, false, List, [], ◌∷◌, ◌++◌, None, refl, arith, codes}
use Rattle.std.specs.Prelude.{if◌then◌else◌}
use Rattle.std.specs.Global.{Vec}
use Rattle.lint_marks.specs.Delimiters.{delimiter_in}
use Rattle.lint_marks.specs.Marks.{text_start, text_after, text_after_call, is_outside_all}
use Rattle.lint_marks.specs.declared.mark.TextScan.{TextScan}
use Rattle.ac_calls.specs.declared.call.CallAt.{CallAt}
use Rattle.ac_calls.specs.declared.call.Extent.{Extent}
use Rattle.port_places.specs.Outside.{IsList, whole, inner, begun, IsOutside}
use Rattle.port_places.proofs.Reached.{call_step}

-- The offsets in a text without calls that are outside. This is open before the first byte, and that one is at this offset.
outside_from : TextScan → ℕ → List ℕ → List ℕ
outside_from s at [] = []
outside_from s at (b ∷ bs) = if is_outside_all s then at ∷ outside_from (text_after s (b ∷ bs)) (at + 1) bs else outside_from (text_after s (b ∷ bs)) (at + 1) bs

outside_of : List ℕ → List ℕ
outside_of text = outside_from text_start 0 text

-- Quotes, quotes in a substitution in quotes, a comment, and a here-document.
outside_told :
    (outside_of (codes "echo \"if\"; if x") ≡ 0 ∷ 1 ∷ 2 ∷ 3 ∷ 4 ∷ 5 ∷ 9 ∷ 10 ∷ 11 ∷ 12 ∷ 13 ∷ 14 ∷ [])
    × (outside_of (codes "\"$(echo \"it's\")\";x") ≡ 0 ∷ 16 ∷ 17 ∷ [])
    × (outside_of (codes "x # if" ++ 10 ∷ codes "y") ≡ 0 ∷ 1 ∷ 2 ∷ 7 ∷ [])
    × (outside_of (codes "a <<E" ++ 10 ∷ codes "if" ++ 10 ∷ codes "E" ++ 10 ∷ codes "b") ≡ 0 ∷ 1 ∷ 2 ∷ 3 ∷ 4 ∷ 5 ∷ 11 ∷ [])
unfolding outside_of outside_from delimiter_in
outside_told = (refl, refl, refl, refl)

extent : ℕ → ℕ → Extent
extent start end = record { start = start; end = end }

-- A vector of one extent, and a call of `A` at the start of a text whose argument it is.
one_extent : Vec Extent → Extent → Vec Extent
one_extent v e = record { ptr = v.ptr; len = 1; cap = 1; alloc = v.alloc; items = e ∷ []; ok = (refl, omega arith); small = omega arith }

call : Vec Extent → CallAt
call v = record { start = 0; name_end = 1; end = 6; args = one_extent v (extent 2 5); is_of_profile = false; row = None }

-- A whole text is a list.
whole_list : (v : Vec Extent) → IsList (codes "A([b]);c") (call v ∷ []) (extent 0 8)
unfolding extent
whole_list v = whole refl refl

-- What is in the brackets of an argument is a list.
inner_list : (v : Vec Extent) → IsList (codes "A([b]);c") (call v ∷ []) (extent 3 4)
unfolding call one_extent extent
inner_list v = inner (call v) (extent 2 5) (0, omega arith, refl) (0, omega arith, refl) refl refl (omega arith) (omega arith)

-- The place after a call is outside, and so is the first one in the brackets of its argument.
places_outside : (v : Vec Extent) → IsOutside (codes "A([b]);c") (call v ∷ []) 6 × IsOutside (codes "A([b]);c") (call v ∷ []) 3
unfolding call one_extent extent
places_outside v = (
  record {
    list = extent 0 8;
    scan = text_after_call 6 text_start;
    is_list = whole_list v;
    within = omega arith;
    is_read = call_step (codes "A([b]);c") (call v ∷ []) (extent 0 8) 0 6 text_start (text_after_call 6 text_start) begun
        (record { call = call v; is_there = (0, omega arith, refl); begins = refl; ends = refl }) (refl, refl) refl;
    outside = refl;
  },
  record { list = extent 3 4; scan = text_start; is_list = inner_list v; within = omega arith; is_read = begun; outside = refl },
)
