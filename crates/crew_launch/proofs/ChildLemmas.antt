-- Lemmas on what is read from a real child, and on its words.
use Rattle.std.proofs.Common.{◌≡◌, ℕ, zero, suc, ◌≤◌, ◌+◌, ◌-◌, ◌*◌, List, [], ◌∷◌, ◌++◌, length, take, refl, sym, ap, ◌∙◌, arith, length-append, Option, Some, None, inl, inr, min, Result, Ok, Err, is_ok, OnOk, if◌then◌else◌, ◌<◌, IsUtf8, get_or, subst}
use Rattle.std.specs.Prelude.{All}
use Rattle.std.proofs.lemmas.List.Elements.{All-get_or}
use Rattle.std.proofs.Math.Seq.{take-append-add}
use Rattle.std.proofs.lemmas.List.{length-take, length-take-le, take_min}
use Rattle.std.proofs.KnownBytes.{Consumes-trans}
use Rattle.std.specs.Io.KnownBytes.{Consumes, Keeps, IsAtEnd}
use Rattle.crew_launch.specs.Ending.{IsKept}

-- the part of a piece that is kept
pub kept_take : (text piece : List ℕ) → length text ≤ 65536 → text ++ take (min (65536 - length text) (length piece)) piece ≡ take 65536 (text ++ piece)
kept_take text piece fits =
    let room = 65536 - length text in
    let full : length text + room ≡ 65536 = omega arith in
    ap (λ p. text ++ p) (take_min room piece) ∙ sym (take-append-add text piece room) ∙ ap (λ n. take n (text ++ piece)) full

-- the part that is kept of a kept text and another piece
pub kept_again : (n : ℕ) (bytes piece : List ℕ) → take n (take n bytes ++ piece) ≡ take n (bytes ++ piece)
kept_again zero bytes piece = refl
kept_again (suc n) [] piece = refl
kept_again (suc n) (b ∷ bytes) piece = ap (λ t. b ∷ t) (kept_again n bytes piece)

-- so many full pieces have given bytes, of which the text is kept
pub record HasRead (known rest : Option (List ℕ)) (text : List ℕ) (reads : ℕ) : Type 0 where
  pub bytes : List ℕ
  pub consumed : Consumes known rest bytes
  pub kept : text ≡ take 65536 bytes
  pub each : length bytes ≡ 4096 * reads

consumes_none : (known : Option (List ℕ)) → Consumes known known []
consumes_none None = tt
consumes_none (Some xs) = refl

pub read_none : (known : Option (List ℕ)) (text : List ℕ) → text ≡ [] → HasRead known known text 0
read_none known text is = record { bytes = []; consumed = consumes_none known; kept = is; each = omega arith }

-- what is kept of the bytes so far and of one piece more
kept_more : (text bytes piece all : List ℕ) → text ≡ take 65536 bytes → all ≡ take 65536 (text ++ piece) → all ≡ take 65536 (bytes ++ piece)
kept_more text bytes piece all kept is = is ∙ ap (λ t. take 65536 (t ++ piece)) kept ∙ kept_again 65536 bytes piece

-- a full piece
pub read_more : (known rest new : Option (List ℕ)) (text piece all : List ℕ) (n reads : ℕ) → HasRead known rest text reads → Consumes rest new (take n piece) → n ≤ length piece → n ≡ 4096 → all ≡ take 65536 (text ++ take n piece) → HasRead known new all (reads + 1)
read_more known rest new text piece all n reads h consumed within full is =
    let longer = length-append h.bytes (take n piece) in
    let n_long = length-take-le n piece within in
    record {
      bytes = h.bytes ++ take n piece;
      consumed = Consumes-trans known rest new h.bytes (take n piece) h.consumed consumed;
      kept = kept_more text h.bytes (take n piece) all h.kept is;
      each = omega (arith, h.each, longer, n_long, full);
    }

-- the last piece, which the end cut
pub read_end : (known rest new : Option (List ℕ)) (text piece all : List ℕ) (n reads : ℕ) → HasRead known rest text reads → Consumes rest new (take n piece) → all ≡ take 65536 (text ++ take n piece) → IsAtEnd new → IsKept known all
read_end known rest new text piece all n reads h consumed is end =
    record {
      bytes = h.bytes ++ take n piece;
      rest = new;
      consumed = Consumes-trans known rest new h.bytes (take n piece) h.consumed consumed;
      kept = kept_more text h.bytes (take n piece) all h.kept is;
      all = inl end;
    }

pub read_most : (known rest : Option (List ℕ)) (text : List ℕ) → HasRead known rest text 1024 → IsKept known text
read_most known rest text h = record { bytes = h.bytes; rest = rest; consumed = h.consumed; kept = h.kept; all = inr (omega (arith, h.each)) }

pub keeps_same : (known : Option (List ℕ)) → Keeps known known
keeps_same None = tt
keeps_same (Some xs) = refl

-- words of which one isn't UTF-8
pub not_all : (words : List (List ℕ)) (word : List ℕ) (i : ℕ) → word ≡ get_or words i word → i < length words → ¬ (IsUtf8 word) → ¬ (All IsUtf8 words)
not_all words word i here inside bad good = bad (subst IsUtf8 (sym here) (All-get_or IsUtf8 words i word inside good))

pub kept_on : {E : Type 0} (r : Result (Unit {0}) E) (text new full all : List ℕ) → new ≡ (if is_ok r then full else text) → full ≡ all → OnOk r (new ≡ all)
kept_on (Ok u) text new full all is same = is ∙ same
kept_on (Err e) text new full all is same = tt

pub kept_fits : (known rest : Option (List ℕ)) (text : List ℕ) (reads : ℕ) → HasRead known rest text reads → length text ≤ 65536
kept_fits known rest text reads h = omega (arith, ap length h.kept, length-take 65536 h.bytes)
