-- Lemmas on a reader that is read ahead.
use Rattle.std.proofs.Common.{◌≡◌, ℕ, ◌+◌, ◌<◌, ◌≤◌, List, [], ◌++◌, length, take, drop, Option, Some, None, Result, sym, ap, ◌∙◌, subst, arith, append_assoc}
use Rattle.std.specs.Prelude.{slice_range}
use Rattle.std.proofs.lemmas.List.{drop_all, drop-append-le}
use Rattle.std.proofs.lemmas.List.Folds.{drop_split}
use Rattle.std.proofs.KnownBytes.{prepend_known-nil}
use Rattle.std.specs.Io.KnownBytes.{Consumes, IsAtEnd, ReadConsumes, prepend_known}
use Rattle.crew_launch.specs.Piped.{ReadsAhead}

-- a read of the reader, after the whole queue was taken
pub read_past : {E : Type 0} (queue : List ℕ) (taken : ℕ) (old new : Option (List ℕ)) (r : Result ℕ E) (buf : List ℕ) → taken ≡ length queue → ReadConsumes old new r buf
    → ReadConsumes (prepend_known (drop taken queue) old) (prepend_known (drop taken queue) new) r buf
read_past queue taken old new r buf at read =
    let none : drop taken queue ≡ [] = drop_all taken queue (omega (arith, at)) in
    subst (λ d. ReadConsumes (prepend_known d old) (prepend_known d new) r buf) (sym none)
    (subst (λ o. ReadConsumes o (prepend_known [] new) r buf) (sym (prepend_known-nil old)) (subst (λ o. ReadConsumes old o r buf) (sym (prepend_known-nil new)) read))

taken_of : (left : Option (List ℕ)) (all front rest : List ℕ) → all ≡ front ++ rest → Consumes (prepend_known all left) (prepend_known rest left) front
taken_of None all front rest is = tt
taken_of (Some xs) all front rest is = ap (λ l. l ++ xs) is ∙ append_assoc front rest xs

-- a read of the queue
pub read_of : (queue buf : List ℕ) (taken n : ℕ) (left : Option (List ℕ)) → taken + n ≤ length queue → (0 < length buf → 0 < n) → take n buf ≡ slice_range queue taken (taken + n)
    → Consumes (prepend_known (drop taken queue) left) (prepend_known (drop (taken + n) queue) left) (take n buf)
    × (n ≡ 0 → 0 < length buf → IsAtEnd (prepend_known (drop (taken + n) queue) left))
read_of queue buf taken n left within some bytes = (
  subst (Consumes (prepend_known (drop taken queue) left) (prepend_known (drop (taken + n) queue) left)) (sym bytes)
      (taken_of left (drop taken queue) (slice_range queue taken (taken + n)) (drop (taken + n) queue) (drop_split queue taken (taken + n) (omega arith))),
  λ none room. absurd (omega (arith, none, some room)),
)

moved : (left rest : Option (List ℕ)) (all bytes : List ℕ) → left ≡ prepend_known bytes rest → prepend_known (all ++ bytes) rest ≡ prepend_known all left
moved left None all bytes is = sym (ap (prepend_known all) is)
moved left (Some xs) all bytes is = ap Some (append_assoc all bytes xs) ∙ sym (ap (prepend_known all) is)

-- what was read ahead is left, as before
pub read_later : (queue new : List ℕ) (taken : ℕ) (left rest : Option (List ℕ)) → taken ≤ length queue → ReadsAhead queue new left rest
    → prepend_known (drop taken new) rest ≡ prepend_known (drop taken queue) left
read_later queue new taken left rest within ahead =
    let all : drop taken new ≡ drop taken queue ++ ahead.0 = ap (drop taken) ahead.1 ∙ drop-append-le taken queue ahead.0 within in
    ap (λ d. prepend_known d rest) all ∙ moved left rest (drop taken queue) ahead.0 ahead.2
