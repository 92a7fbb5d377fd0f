-- The loop over a text that cuts it at the commas outside parentheses.
use Rattle.std.proofs.Common.{◌≡◌, ℕ, ◌+◌, ◌-◌, ◌<◌, ◌≤◌, true, false, Bor, List, [], ◌∷◌, ◌++◌, length, take, drop, map, get_or, refl, sym, ap, ◌∙◌, arith, append_assoc, length-drop}
use Rattle.std.specs.List.{onto_first}
use Rattle.std.proofs.lemmas.Bool.{cond-true, cond-false}
use Rattle.std.proofs.lemmas.Bool.Decides.{nat_tests}
use Rattle.std.proofs.lemmas.List.{append-nil, map-append, drop_more, take_more, take_all, get_or-drop}
use Rattle.std.proofs.Math.ListN.{drop_of_length-le}
use Rattle.ac_args.specs.Commas.{depth_after, is_free_comma, parts_from}

-- bytes put in front of the first part
abbrev onto : List ℕ → List (List ℕ) → List (List ℕ)
onto [] parts = parts
onto (b ∷ bs) parts = onto_first b (onto bs parts)

onto_some : (bs part : List ℕ) (rest : List (List ℕ)) → onto bs (part ∷ rest) ≡ (bs ++ part) ∷ rest
onto_some [] part rest = refl
onto_some (b ∷ bs) part rest = ap (onto_first b) (onto_some bs part rest)

-- in front of an empty part they are a part themselves
onto_empty : (bs : List ℕ) (rest : List (List ℕ)) → onto bs ([] ∷ rest) ≡ bs ∷ rest
onto_empty bs rest = onto_some bs [] rest ∙ ap (λ part. part ∷ rest) (append-nil bs)

onto_append : (bs cs : List ℕ) (parts : List (List ℕ)) → onto (bs ++ cs) parts ≡ onto bs (onto cs parts)
onto_append [] cs parts = refl
onto_append (b ∷ bs) cs parts = ap (onto_first b) (onto_append bs cs parts)

-- the bytes from start up to at
abbrev piece : List ℕ → ℕ → ℕ → List ℕ
piece text start at = take (at - start) (drop start text)

-- the parts of a text of which some were read, and one was begun at start; the bytes from at on are still to be read
abbrev pub parts_with : List (List ℕ) → List ℕ → ℕ → ℕ → ℕ → List (List ℕ)
parts_with parts text start at depth = parts ++ onto (piece text start at) (parts_from depth (drop at text))

piece_more : (text : List ℕ) (start at : ℕ) → start ≤ at → at < length text → piece text start (at + 1) ≡ piece text start at ++ get_or text at 0 ∷ []
piece_more text start at le lt =
    let long : at + 1 - start ≡ at - start + 1 = omega arith in
    let inside : at - start < length (drop start text) = omega (arith, length-drop start text) in
    let same : start + (at - start) ≡ at = omega arith in
    ap (λ n. take n (drop start text)) long ∙ take_more (drop start text) (at - start) 0 inside
    ∙ ap (λ b. piece text start at ++ b ∷ []) (get_or-drop start text (at - start) 0 ∙ ap (λ i. get_or text i 0) same)

piece_none : (text : List ℕ) (at : ℕ) → piece text at at ≡ []
piece_none text at =
    let none : at - at ≡ 0 = omega arith in
    ap (λ n. take n (drop at text)) none

kept : (depth : ℕ) (text : List ℕ) (at : ℕ) → at < length text → is_free_comma depth (get_or text at 0) ≡ false
    → parts_from depth (drop at text) ≡ onto_first (get_or text at 0) (parts_from (depth_after depth (get_or text at 0)) (drop (at + 1) text))
unfolding parts_from
kept depth text at lt held = ap (parts_from depth) (drop_more text at 0 lt) ∙ cond-false _ _ _ held

ended : (depth : ℕ) (text : List ℕ) (at : ℕ) → at < length text → is_free_comma depth (get_or text at 0) ≡ true
    → parts_from depth (drop at text) ≡ [] ∷ parts_from 0 (drop (at + 1) text)
unfolding parts_from
ended depth text at lt free = ap (parts_from depth) (drop_more text at 0 lt) ∙ cond-true _ _ _ free

none_left : (depth : ℕ) (text : List ℕ) (at : ℕ) → length text ≤ at → parts_from depth (drop at text) ≡ [] ∷ []
unfolding parts_from
none_left depth text at le = ap (parts_from depth) (drop_of_length-le text le)

is_zero : (depth b : ℕ) → is_free_comma depth b ≡ true → depth ≡ 0
is_zero depth b free = grind (arith, nat_tests)

-- one byte opens one parenthesis at most
pub below : (depth at b : ℕ) {after : ℕ} → after ≡ depth_after depth b → depth ≤ at → after ≤ at + 1
below depth at b is le = grind (arith, nat_tests)

-- a byte that is no free comma goes to the part that was begun
pub part_grows : (parts total : List (List ℕ)) (text : List ℕ) (start at depth below : ℕ) → start ≤ at → at < length text → is_free_comma depth (get_or text at 0) ≡ false
    → below ≡ depth_after depth (get_or text at 0) → parts_with parts text start at depth ≡ total → parts_with parts text start (at + 1) below ≡ total
part_grows parts total text start at depth below le lt held is so_far =
    ap (λ d. parts_with parts text start (at + 1) d) is
    ∙ ap (λ p. parts ++ onto p (parts_from (depth_after depth (get_or text at 0)) (drop (at + 1) text))) (piece_more text start at le lt)
    ∙ ap (λ ps. parts ++ ps) (onto_append (piece text start at) (get_or text at 0 ∷ []) (parts_from (depth_after depth (get_or text at 0)) (drop (at + 1) text)))
    ∙ ap (λ ps. parts ++ onto (piece text start at) ps) (sym (kept depth text at lt held))
    ∙ so_far

-- a free comma ends it
pub part_ends : (parts more total : List (List ℕ)) (text : List ℕ) (start at depth : ℕ) → at < length text → is_free_comma depth (get_or text at 0) ≡ true
    → more ≡ parts ++ piece text start at ∷ [] → parts_with parts text start at depth ≡ total → parts_with more text (at + 1) (at + 1) depth ≡ total
part_ends parts more total text start at depth lt free is so_far =
    let rest = parts_from 0 (drop (at + 1) text) in
    ap (λ p. more ++ onto p (parts_from depth (drop (at + 1) text))) (piece_none text (at + 1))
    ∙ ap (λ d. more ++ parts_from d (drop (at + 1) text)) (is_zero depth _ free)
    ∙ ap (λ m. m ++ rest) is
    ∙ append_assoc parts (piece text start at ∷ []) rest
    ∙ ap (λ ps. parts ++ ps) (sym (onto_empty (piece text start at) rest))
    ∙ ap (λ ps. parts ++ onto (piece text start at) ps) (sym (ended depth text at lt free))
    ∙ so_far

-- and so does the end of the text
pub last_part : (parts more total : List (List ℕ)) (text : List ℕ) (start at depth : ℕ) → length text ≤ at
    → more ≡ parts ++ piece text start (length text) ∷ [] → parts_with parts text start at depth ≡ total → more ≡ total
last_part parts more total text start at depth le is so_far =
    let short : length (drop start text) ≤ length text - start = omega (arith, length-drop start text) in
    let long : length (drop start text) ≤ at - start = omega (arith, length-drop start text) in
    is
    ∙ ap (λ p. parts ++ p ∷ []) (take_all (length text - start) (drop start text) short ∙ sym (take_all (at - start) (drop start text) long))
    ∙ ap (λ ps. parts ++ ps) (sym (onto_empty (piece text start at) []))
    ∙ ap (λ ps. parts ++ onto (piece text start at) ps) (sym (none_left depth text at le))
    ∙ so_far

-- a slice that is pushed, as one more text
pub texts_push : (slices more : List (Bor (List ℕ))) (slice : Bor (List ℕ)) → more ≡ slices ++ slice ∷ [] → map (λ s. s.now) more ≡ map (λ s. s.now) slices ++ slice.now ∷ []
texts_push slices more slice is = ap (map (λ s. s.now)) is ∙ map-append (λ s. s.now) slices (slice ∷ [])
