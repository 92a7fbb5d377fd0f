-- The matcher that goes back only to the last `*` finds what the definition says.
use Rattle.std.proofs.Common.{◌≡◌, ℕ, zero, suc, ◌+◌, ◌-◌, ◌*◌, ◌<◌, ◌≤◌, Bool, true, false, ◌&&◌, ◌||◌, ltb, ◌==◌, cond, ◌⊎◌, inl, inr, List, [], ◌∷◌, ◌++◌, length, get_or, take, drop, Option, Some, None, refl, sym, ap, subst, ◌∙◌, append_assoc, arith, length-append}
use Rattle.std.proofs.Math.Nat.{mul-le-mul_left}
use Rattle.std.proofs.lemmas.Bool.{eqb-true, ltb-true, ltb-false, lt-ltb, le-ltb, eq-eqb, or_right, and_parts}
use Rattle.std.proofs.lemmas.List.{drop_more, take_rest, drop_all, drop-drop, length-drop}
use Rattle.shellword.specs.declared.pattern.Piece.{Piece}
use Rattle.shellword.specs.declared.pattern.Piece.TheVariants.{AnyBytes, OneByte, Byte}
use Rattle.shellword.specs.declared.matching.Step.{Step}
use Rattle.shellword.specs.declared.matching.Step.TheVariants.{Star, Taken, End, Stuck}
use Rattle.shellword.specs.Matching.{Matches, nothing, any_bytes, one_byte, byte}
use Rattle.shellword.specs.Matcher.{some_rest, matching, step_of}

-- ---- the definition as a function

pub some_here : (test : List ℕ → Bool) (rest : List ℕ) → test rest ≡ true → some_rest test rest ≡ true
some_here test [] h = h
some_here test (b ∷ bs) h = rw h refl

some_front : (test : List ℕ → Bool) (front rest : List ℕ) → test rest ≡ true → some_rest test (front ++ rest) ≡ true
some_front test [] rest h = some_here test rest h
some_front test (b ∷ front) rest h = or_right (test (b ∷ (front ++ rest))) (some_rest test (front ++ rest)) (some_front test front rest h)

-- what was found after a front
abbrev pub Split : (List ℕ → Bool) → List ℕ → Type 0
Split test text = (front : List ℕ) × (rest : List ℕ) × (text ≡ front ++ rest) × (test rest ≡ true)

pub some_split : (test : List ℕ → Bool) (text : List ℕ) → some_rest test text ≡ true → Split test text
some_split test [] h = ([], [], refl, h)
some_split test (b ∷ bs) h = by_first (test (b ∷ bs)) refl h (λ k. some_split test bs k) where
  by_first : (p : Bool) → test (b ∷ bs) ≡ p → (p || some_rest test bs) ≡ true → (some_rest test bs ≡ true → Split test bs) → Split test (b ∷ bs)
  by_first true e k later = ([], b ∷ bs, refl, e)
  by_first false e k later = let s = later k in (b ∷ s.0, s.1, ap (λ (t : List ℕ). b ∷ t) s.2, s.3)

pub matches-matching : {pieces : List Piece} {text : List ℕ} → Matches pieces text → matching pieces text ≡ true
unfolding matching
matches-matching nothing = refl
matches-matching (any_bytes {pieces} {rest} front h) = some_front (matching pieces) front rest (matches-matching h)
matches-matching (one_byte b h) = matches-matching h
matches-matching (byte b h) = rw (eq-eqb b b refl) (matches-matching h)

pub matching-matches : (pieces : List Piece) (text : List ℕ) → matching pieces text ≡ true → Matches pieces text
unfolding matching
matching-matches [] [] h = nothing
matching-matches [] (b ∷ bs) h = absurd cc
matching-matches (AnyBytes ∷ pieces) text h =
    let s = some_split (matching pieces) text h in
    subst (Matches (AnyBytes ∷ pieces)) (sym s.2) (any_bytes s.0 (matching-matches pieces s.1 s.3))
matching-matches (OneByte ∷ pieces) [] h = absurd cc
matching-matches (OneByte ∷ pieces) (b ∷ bs) h = one_byte b (matching-matches pieces bs h)
matching-matches (Byte c ∷ pieces) [] h = absurd cc
matching-matches (Byte c ∷ pieces) (b ∷ bs) h =
    let p = and_parts (b == c) (matching pieces bs) h in
    subst (λ (x : ℕ). Matches (Byte c ∷ pieces) (x ∷ bs)) (sym (eqb-true b c p.0)) (byte c (matching-matches pieces bs p.1))

-- ---- one step

abbrev is_plain : Piece → Bool
is_plain AnyBytes = false
is_plain OneByte = true
is_plain (Byte b) = true

by_byte : (p : Bool) (s : Step) → cond p Taken Stuck ≡ s → ((p ≡ true) × (s ≡ Taken)) ⊎ ((p ≡ false) × (s ≡ Stuck))
by_byte true s e = inl (refl, sym e)
by_byte false s e = inr (refl, sym e)

step_end : (pieces : List Piece) (text : List ℕ) → step_of pieces text ≡ End → matching pieces text ≡ true
unfolding matching
step_end [] [] e = refl
step_end [] (b ∷ bs) e = absurd cc
step_end (AnyBytes ∷ pieces) text e = absurd cc
step_end (OneByte ∷ pieces) [] e = absurd cc
step_end (OneByte ∷ pieces) (b ∷ bs) e = absurd cc
step_end (Byte c ∷ pieces) [] e = absurd cc
step_end (Byte c ∷ pieces) (b ∷ bs) e = elim (by_byte (b == c) End e) [ inl h ↦ absurd (let x : End ≡ Taken = h.1 in cc) | inr h ↦ absurd (let x : End ≡ Stuck = h.1 in cc) ]

step_star : (pieces : List Piece) (text : List ℕ) → step_of pieces text ≡ Star → (rest : List Piece) × (pieces ≡ AnyBytes ∷ rest)
step_star [] [] e = absurd cc
step_star [] (b ∷ bs) e = absurd cc
step_star (AnyBytes ∷ pieces) text e = (pieces, refl)
step_star (OneByte ∷ pieces) [] e = absurd cc
step_star (OneByte ∷ pieces) (b ∷ bs) e = absurd cc
step_star (Byte c ∷ pieces) [] e = absurd cc
step_star (Byte c ∷ pieces) (b ∷ bs) e = elim (by_byte (b == c) Star e) [ inl h ↦ absurd (let x : Star ≡ Taken = h.1 in cc) | inr h ↦ absurd (let x : Star ≡ Stuck = h.1 in cc) ]

step_stuck : (pieces : List Piece) (text : List ℕ) → step_of pieces text ≡ Stuck → matching pieces text ≡ false
unfolding matching
step_stuck [] [] e = absurd cc
step_stuck [] (b ∷ bs) e = refl
step_stuck (AnyBytes ∷ pieces) text e = absurd cc
step_stuck (OneByte ∷ pieces) [] e = refl
step_stuck (OneByte ∷ pieces) (b ∷ bs) e = absurd cc
step_stuck (Byte c ∷ pieces) [] e = refl
step_stuck (Byte c ∷ pieces) (b ∷ bs) e = elim (by_byte (b == c) Stuck e) [ inl h ↦ absurd (let x : Stuck ≡ Taken = h.1 in cc) | inr h ↦ rw h.0 refl ]

record Takes (pieces : List Piece) (text : List ℕ) : Type 0 where
  piece : Piece
  rest : List Piece
  first : ℕ
  more : List ℕ
  pieces_are : pieces ≡ piece ∷ rest
  text_is : text ≡ first ∷ more
  plain : is_plain piece ≡ true
  same : matching pieces text ≡ matching rest more

step_taken : (pieces : List Piece) (text : List ℕ) → step_of pieces text ≡ Taken → Takes pieces text
unfolding matching
step_taken [] [] e = absurd cc
step_taken [] (b ∷ bs) e = absurd cc
step_taken (AnyBytes ∷ pieces) text e = absurd cc
step_taken (OneByte ∷ pieces) [] e = absurd cc
step_taken (OneByte ∷ pieces) (b ∷ bs) e = record { piece = OneByte; rest = pieces; first = b; more = bs; pieces_are = refl; text_is = refl; plain = refl; same = refl }
step_taken (Byte c ∷ pieces) [] e = absurd cc
step_taken (Byte c ∷ pieces) (b ∷ bs) e =
    elim (by_byte (b == c) Taken e) [
      | inl h ↦ record { piece = Byte c; rest = pieces; first = b; more = bs; pieces_are = refl; text_is = refl; plain = refl; same = rw h.0 refl }
      | inr h ↦ absurd (let x : Taken ≡ Stuck = h.1 in cc)
    ]

drop_tail : {A : Type 0} (i : ℕ) (xs : List A) (x : A) (rest : List A) → drop i xs ≡ x ∷ rest → (i < length xs) × (drop (i + 1) xs ≡ rest)
drop_tail {A} i xs x rest e =
    let n = length-drop i xs in
    let m : length (drop i xs) ≡ suc (length rest) = ap length e in
    (omega arith, ap (λ (k : ℕ). drop k xs) (omega arith) ∙ sym (drop-drop 1 i xs) ∙ ap (drop 1) e)

-- ---- the last star

-- the star before the piece `first` may take more than the bytes before `start`
abbrev pub retry : List Piece → List ℕ → Option (ℕ × ℕ) → Bool
retry pieces text None = false
retry pieces text (Some star) = ltb star.1 (length text) && some_rest (matching (drop star.0 pieces)) (drop (star.1 + 1) text)

some_rest_at : (test : List ℕ → Bool) (text : List ℕ) (i : ℕ) → i ≤ length text → some_rest test (drop i text) ≡ (test (drop i text) || (ltb i (length text) && some_rest test (drop (i + 1) text)))
some_rest_at test text i h = by_place (ltb i (length text)) refl where
  or_false : (p : Bool) → p ≡ (p || false)
  or_false true = refl
  or_false false = refl

  by_place : (p : Bool) → ltb i (length text) ≡ p → some_rest test (drop i text) ≡ (test (drop i text) || (p && some_rest test (drop (i + 1) text)))
  by_place true e = rw (drop_more text i 0 (ltb-true i (length text) e)) refl
  by_place false e = rw (drop_all i text (ltb-false i (length text) e)) (or_false (test []))

abbrev all_plain : List Piece → Bool
all_plain [] = true
all_plain (p ∷ ps) = is_plain p && all_plain ps

-- the pieces after the last star that are passed: none of them is a star
pub record Passed (pieces : List Piece) (first piece : ℕ) : Type 0 where
  passed : List Piece
  plain : all_plain passed ≡ true
  stands : drop first pieces ≡ passed ++ drop piece pieces
  len : first + length passed ≡ piece

pub no_piece : (pieces : List Piece) (piece : ℕ) → Passed pieces piece piece
no_piece pieces piece = record { passed = []; plain = refl; stands = refl; len = omega arith }

plain_push : (ps : List Piece) (p : Piece) → all_plain ps ≡ true → is_plain p ≡ true → all_plain (ps ++ p ∷ []) ≡ true
plain_push [] p h k = rw k refl
plain_push (q ∷ ps) p h k = let b = and_parts (is_plain q) (all_plain ps) h in rw (b.0, plain_push ps p b.1 k) refl

one_more : (pieces : List Piece) (first piece : ℕ) (x : Piece) → Passed pieces first piece → drop piece pieces ≡ x ∷ drop (piece + 1) pieces → is_plain x ≡ true → Passed pieces first (piece + 1)
one_more pieces first piece x p e plain = record {
  passed = p.passed ++ x ∷ [];
  plain = plain_push p.passed x p.plain plain;
  stands = p.stands ∙ ap (λ (ps : List Piece). p.passed ++ ps) e ∙ sym (append_assoc p.passed (x ∷ []) (drop (piece + 1) pieces));
  len = omega (arith, p.len, length-append p.passed (x ∷ []));
}

-- the bytes that plain pieces take
record Bytes (n : ℕ) (rest : List Piece) (text : List ℕ) : Type 0 where
  front : List ℕ
  more : List ℕ
  text_is : text ≡ front ++ more
  len : length front ≡ n
  matched : matching rest more ≡ true

bytes_cons : (n : ℕ) (rest : List Piece) (b : ℕ) (bs : List ℕ) → Bytes n rest bs → Bytes (suc n) rest (b ∷ bs)
bytes_cons n rest b bs h = record { front = b ∷ h.front; more = h.more; text_is = ap (λ (t : List ℕ). b ∷ t) h.text_is; len = omega (arith, h.len); matched = h.matched }

plain_bytes : (passed rest : List Piece) (text : List ℕ) → all_plain passed ≡ true → matching (passed ++ rest) text ≡ true → Bytes (length passed) rest text
unfolding matching
plain_bytes [] rest text plain h = record { front = []; more = text; text_is = refl; len = refl; matched = h }
plain_bytes (AnyBytes ∷ passed) rest text plain h = absurd cc
plain_bytes (OneByte ∷ passed) rest [] plain h = absurd cc
plain_bytes (OneByte ∷ passed) rest (b ∷ bs) plain h = bytes_cons (length passed) rest b bs (plain_bytes passed rest bs plain h)
plain_bytes (Byte c ∷ passed) rest [] plain h = absurd cc
plain_bytes (Byte c ∷ passed) rest (b ∷ bs) plain h =
    bytes_cons (length passed) rest b bs (plain_bytes passed rest bs plain (and_parts (b == c) (matching (passed ++ rest) bs) h).1)

some_more : (test : List ℕ → Bool) (front rest : List ℕ) → some_rest test rest ≡ true → some_rest test (front ++ rest) ≡ true
some_more test [] rest h = h
some_more test (b ∷ front) rest h = or_right (test (b ∷ (front ++ rest))) (some_rest test (front ++ rest)) (some_more test front rest h)

drop_front : (n : ℕ) (front rest : List ℕ) → n ≤ length front → drop n (front ++ rest) ≡ drop n front ++ rest
drop_front zero front rest h = refl
drop_front (suc n) [] rest h = absurd (omega arith)
drop_front (suc n) (b ∷ front) rest h = drop_front n front rest (omega arith)

moved : (start at n : ℕ) (text front more : List ℕ) → at ≡ start + n → drop start text ≡ front ++ more → n ≤ length front → drop at text ≡ drop n front ++ more
moved start at n text front more places whole fits =
    ap (λ (k : ℕ). drop k text) places ∙ sym (drop-drop n start text) ∙ ap (drop n) whole ∙ drop_front n front more fits

-- the text after the byte at `start`, if a front of the rest is given
after_first : (start : ℕ) (text front taken rest more : List ℕ) → start < length text → drop (start + 1) text ≡ front ++ rest → rest ≡ taken ++ more
    → drop start text ≡ (get_or text start 0 ∷ (front ++ taken)) ++ more
after_first start text front taken rest more lt is split =
    drop_more text start 0 lt ∙ ap (λ (t : List ℕ). get_or text start 0 ∷ t) (is ∙ ap (λ (t : List ℕ). front ++ t) split ∙ sym (append_assoc front taken more))

-- If an earlier star could take more, so can the star at `piece`.
absorbed : (pieces rest : List Piece) (text : List ℕ) (first start piece at : ℕ) → Passed pieces first piece → at + first ≡ start + piece → drop piece pieces ≡ AnyBytes ∷ rest
    → retry pieces text (Some (first, start)) ≡ true → matching (drop piece pieces) (drop at text) ≡ true
unfolding matching
absorbed pieces rest text first start piece at p places star h =
    let b = and_parts (ltb start (length text)) (some_rest (matching (drop first pieces)) (drop (start + 1) text)) h in
    let s = some_split (matching (drop first pieces)) (drop (start + 1) text) b.1 in
    let m : matching (p.passed ++ AnyBytes ∷ rest) s.1 ≡ true = ap (λ (ps : List Piece). matching ps s.1) (sym (p.stands ∙ ap (λ (ps : List Piece). p.passed ++ ps) star)) ∙ s.3 in
    let y = plain_bytes p.passed (AnyBytes ∷ rest) s.1 p.plain m in
    let lt = ltb-true start (length text) b.0 in
    let front = get_or text start 0 ∷ (s.0 ++ y.front) in
    let whole = after_first start text s.0 y.front s.1 y.more lt s.2 y.text_is in
    let n = length p.passed in
    let fits : n ≤ length front = omega (arith, length-append s.0 y.front, y.len) in
    rw (star, moved start at n text front y.more (omega (arith, p.len)) whole fits) (some_more (matching rest) (drop n front) y.more y.matched)

-- ---- the state of the matcher

abbrev pub IsStar : List Piece → ℕ → ℕ → Option (ℕ × ℕ) → Type 0
IsStar pieces piece at None = Unit {0}
IsStar pieces piece at (Some star) = (star.1 ≤ at) × (star.0 ≤ piece) × (at + star.0 ≡ star.1 + piece) × Passed pieces star.0 piece

pub record State (pieces : List Piece) (text : List ℕ) (piece at : ℕ) (star : Option (ℕ × ℕ)) : Type 0 where
  pub in_pieces : piece ≤ length pieces
  pub in_text : at ≤ length text
  pub after : IsStar pieces piece at star
  pub goes_on : (matching (drop piece pieces) (drop at text) || retry pieces text star) ≡ matching pieces text

or_false_right : (p : Bool) → (p || false) ≡ p
or_false_right true = refl
or_false_right false = refl

pub begun : (pieces : List Piece) (text : List ℕ) → State pieces text 0 0 None
begun pieces text = record { in_pieces = omega arith; in_text = omega arith; after = tt; goes_on = or_false_right (matching pieces text) }

or_true : (p q : Bool) → p ≡ true → (p || q) ≡ true
or_true true q h = refl
or_true false q h = absurd cc

or_absorbs : (p q : Bool) → (q ≡ true → p ≡ true) → (p || q) ≡ p
or_absorbs true q h = refl
or_absorbs false true h = sym (h refl)
or_absorbs false false h = refl

module _ (pieces : List Piece) (text : List ℕ) (piece at : ℕ) where
  pub at_end : (star : Option (ℕ × ℕ)) → State pieces text piece at star → step_of (drop piece pieces) (drop at text) ≡ End → true ≡ matching pieces text
  at_end star s e = sym (or_true (matching (drop piece pieces) (drop at text)) (retry pieces text star) (step_end (drop piece pieces) (drop at text) e)) ∙ s.goes_on

  pub in_star : step_of (drop piece pieces) (drop at text) ≡ Star → piece < length pieces
  in_star e = let t = step_star (drop piece pieces) (drop at text) e in (drop_tail piece pieces AnyBytes t.0 t.1).0

  pub at_star : (star : Option (ℕ × ℕ)) → State pieces text piece at star → step_of (drop piece pieces) (drop at text) ≡ Star → State pieces text (piece + 1) at (Some (piece + 1, at))
  unfolding matching
  at_star star s e =
      let t = step_star (drop piece pieces) (drop at text) e in
      let d = drop_tail piece pieces AnyBytes t.0 t.1 in
      let here : drop piece pieces ≡ AnyBytes ∷ drop (piece + 1) pieces = t.1 ∙ ap (λ (ps : List Piece). AnyBytes ∷ ps) (sym d.1) in
      let now : matching (drop piece pieces) (drop at text) ≡ (matching (drop (piece + 1) pieces) (drop at text) || retry pieces text (Some (piece + 1, at))) =
      ap (λ (ps : List Piece). matching ps (drop at text)) here ∙ some_rest_at (matching (drop (piece + 1) pieces)) text at s.in_text in
      record {
        in_pieces = omega (arith, d.0);
        in_text = s.in_text;
        after = (omega arith, omega arith, refl, no_piece pieces (piece + 1));
        goes_on = sym now ∙ sym (or_absorbs (matching (drop piece pieces) (drop at text)) (retry pieces text star) (earlier star s.after here)) ∙ s.goes_on;
      } where
        earlier : (star : Option (ℕ × ℕ)) → IsStar pieces piece at star → drop piece pieces ≡ AnyBytes ∷ drop (piece + 1) pieces → retry pieces text star ≡ true → matching (drop piece pieces) (drop at text) ≡ true
        earlier None b here h = absurd cc
        earlier (Some star) b here h = absorbed pieces (drop (piece + 1) pieces) text star.0 star.1 piece at b.3 b.2 here h

  pub in_taken : step_of (drop piece pieces) (drop at text) ≡ Taken → (piece < length pieces) × (at < length text)
  in_taken e =
      let t = step_taken (drop piece pieces) (drop at text) e in
      ((drop_tail piece pieces t.piece t.rest t.pieces_are).0, (drop_tail at text t.first t.more t.text_is).0)

  pub at_taken : (star : Option (ℕ × ℕ)) → State pieces text piece at star → step_of (drop piece pieces) (drop at text) ≡ Taken → State pieces text (piece + 1) (at + 1) star
  at_taken star s e =
      let t = step_taken (drop piece pieces) (drop at text) e in
      let d = drop_tail piece pieces t.piece t.rest t.pieces_are in
      let f = drop_tail at text t.first t.more t.text_is in
      let here : drop piece pieces ≡ t.piece ∷ drop (piece + 1) pieces = t.pieces_are ∙ ap (λ (ps : List Piece). t.piece ∷ ps) (sym d.1) in
      let now : matching (drop piece pieces) (drop at text) ≡ matching (drop (piece + 1) pieces) (drop (at + 1) text) = t.same ∙ rw (d.1, f.1) refl in
      record {
        in_pieces = omega (arith, d.0);
        in_text = omega (arith, f.0);
        after = later star s.after t.piece here t.plain;
        goes_on = ap (λ (p : Bool). p || retry pieces text star) (sym now) ∙ s.goes_on;
      } where
        later : (star : Option (ℕ × ℕ)) → IsStar pieces piece at star → (x : Piece) → drop piece pieces ≡ x ∷ drop (piece + 1) pieces → is_plain x ≡ true → IsStar pieces (piece + 1) (at + 1) star
        later None b x here plain = tt
        later (Some star) b x here plain = (omega (arith, b.0), omega (arith, b.1), omega (arith, b.2), one_more pieces star.0 piece x b.3 here plain)

  pub at_stuck : (star : Option (ℕ × ℕ)) → State pieces text piece at star → step_of (drop piece pieces) (drop at text) ≡ Stuck → retry pieces text star ≡ matching pieces text
  at_stuck star s e = sym (rw (step_stuck (drop piece pieces) (drop at text) e) refl) ∙ s.goes_on

  pub no_star : State pieces text piece at None → step_of (drop piece pieces) (drop at text) ≡ Stuck → false ≡ matching pieces text
  no_star s e = at_stuck None s e

  pub all_taken : (first start : ℕ) → State pieces text piece at (Some (first, start)) → step_of (drop piece pieces) (drop at text) ≡ Stuck → start ≡ length text → false ≡ matching pieces text
  all_taken first start s e is = sym (rw (le-ltb start (length text) (omega arith)) refl) ∙ at_stuck (Some (first, start)) s e

  pub back : (first start : ℕ) → State pieces text piece at (Some (first, start)) → step_of (drop piece pieces) (drop at text) ≡ Stuck → start < length text → State pieces text first (start + 1) (Some (first, start + 1))
  back first start s e lt =
      let now : retry pieces text (Some (first, start)) ≡ some_rest (matching (drop first pieces)) (drop (start + 1) text) = rw (lt-ltb start (length text) lt) refl in
      record {
        in_pieces = omega (arith, s.in_pieces, s.after.1);
        in_text = omega (arith, lt);
        after = (omega arith, omega arith, omega arith, no_piece pieces first);
        goes_on = sym (some_rest_at (matching (drop first pieces)) text (start + 1) (omega (arith, lt))) ∙ sym now ∙ at_stuck (Some (first, start)) s e;
      }

-- the step before what is left, as slices give it
pub step_at : (pieces : List Piece) (text : List ℕ) (piece at : ℕ) (s : Step) → s ≡ step_of (take (length pieces - piece) (drop piece pieces)) (take (length text - at) (drop at text)) → step_of (drop piece pieces) (drop at text) ≡ s
step_at pieces text piece at s e = sym (e ∙ rw (take_rest pieces piece, take_rest text at) refl)

pub with_star : (pieces : List Piece) (text : List ℕ) (piece at : ℕ) (a b : Option (ℕ × ℕ)) → a ≡ b → State pieces text piece at a → State pieces text piece at b
with_star pieces text piece at a b e s = subst (State pieces text piece at) e s

-- ---- the work that is left

abbrev turns : ℕ → Option (ℕ × ℕ) → ℕ
turns n None = n + 1
turns n (Some star) = n - star.1

abbrev pub work : List Piece → List ℕ → ℕ → Option (ℕ × ℕ) → ℕ
work pieces text piece star = (length pieces + 1) * turns (length text) star + (length pieces - piece)

pub less_star : (pieces : List Piece) (text : List ℕ) (piece at : ℕ) (star : Option (ℕ × ℕ)) → State pieces text piece at star → piece < length pieces → work pieces text (piece + 1) (Some (piece + 1, at)) < work pieces text piece star
less_star pieces text piece at star s lt = omega (arith, mul-le-mul_left (length pieces + 1) (fewer star s.after)) where
  fewer : (star : Option (ℕ × ℕ)) → IsStar pieces piece at star → length text - at ≤ turns (length text) star
  fewer None b = omega arith
  fewer (Some star) b = omega (arith, b.0)

pub less_taken : (pieces : List Piece) (text : List ℕ) (piece : ℕ) (star : Option (ℕ × ℕ)) → piece < length pieces → work pieces text (piece + 1) star < work pieces text piece star
less_taken pieces text piece star lt = omega arith

pub less_back : (pieces : List Piece) (text : List ℕ) (piece first start : ℕ) → start < length text → work pieces text first (Some (first, start + 1)) < work pieces text piece (Some (first, start))
less_back pieces text piece first start lt =
    let one : length text - start ≡ (length text - (start + 1)) + 1 = omega arith in
    rw one (omega arith)
