-- What is open at each place of a text.
use Rattle.std.proofs.Common.{◌≡◌, ℕ, zero, suc, ◌+◌, ◌<◌, ◌≤◌, List, [], ◌∷◌, length, drop, get_or, refl, sym, ap, subst, ◌∙◌, arith, inl, inr}
use Rattle.std.proofs.lemmas.Bool.{cases_Bool}
use Rattle.std.proofs.lemmas.List.{drop-drop}
use Rattle.lint_marks.specs.declared.quotes.Quotes.{Quotes}
use Rattle.lint_marks.specs.declared.mark.TextScan.{TextScan}
use Rattle.lint_marks.specs.declared.mark.Mark.{Mark}
use Rattle.lint_marks.specs.Quotes as m4
use Rattle.lint_marks.specs.Heres.{is_here}
use Rattle.lint_marks.specs.Marks.{text_after, after_bytes, text_start, scan_at, mark_of, marks_from, marks_of}
use Rattle.lint_marks.specs.Fronts.{IsBetween, in_open, Along, ReadsPiece, ArePieces, no_more, one_more}
use Rattle.lint_marks.proofs.Fronts.{reads_piece, never}

-- ---- marks

marked_from : (n : ℕ) (s : TextScan) (text : List ℕ) (other : Mark) → n < length text → get_or (marks_from s text) n other ≡ mark_of (after_bytes s n text)
unfolding marks_from after_bytes
marked_from n s [] other lt = absurd (omega (arith, lt))
marked_from zero s (b ∷ bs) other lt = refl
marked_from (suc n) s (b ∷ bs) other lt = marked_from n (text_after s (b ∷ bs)) bs other (omega (arith, lt))

pub marked_at : (n : ℕ) (text : List ℕ) (other : Mark) → n < length text → get_or (marks_of text) n other ≡ mark_of (scan_at n text)
marked_at n text other lt = marked_from n text_start text other lt

-- ---- pieces

-- after n bytes, of what m4 has open alone
quotes_after : Quotes → ℕ → List ℕ → Quotes
quotes_after q zero text = q
quotes_after q (suc n) [] = q
quotes_after q (suc n) (b ∷ bs) = quotes_after (m4.after q (b ∷ bs)) n bs

-- a here-document is the same to m4
quotes_step : (s : TextScan) (b : ℕ) (bs : List ℕ) → (text_after s (b ∷ bs)).quotes ≡ m4.after s.quotes (b ∷ bs)
quotes_step s b bs =
    elim (cases_Bool (is_here s.heres)) [
      | inl here ↦ rw here refl
      | inr other ↦ rw other refl
    ]

quotes_of : (n : ℕ) (s : TextScan) (text : List ℕ) → (after_bytes s n text).quotes ≡ quotes_after s.quotes n text
unfolding after_bytes quotes_after
quotes_of zero s text = refl
quotes_of (suc n) s [] = refl
quotes_of (suc n) s (b ∷ bs) = quotes_of n (text_after s (b ∷ bs)) bs ∙ ap (λ (q : Quotes). quotes_after q n bs) (quotes_step s b bs)

along_end : (Before : Quotes → Type 0) (n : ℕ) (q : Quotes) (text : List ℕ) → Along Before IsBetween n q text → IsBetween (quotes_after q n text) (drop n text)
unfolding quotes_after
along_end Before zero q text along = along
along_end Before (suc n) q [] along = absurd along
along_end Before (suc n) q (b ∷ bs) along = along_end Before n (m4.after q (b ∷ bs)) bs along.1

piece_end : (Within : Quotes → Type 0) (n : ℕ) (q : Quotes) (text : List ℕ) → ReadsPiece Within n q text → IsBetween (quotes_after q n text) (drop n text)
unfolding quotes_after
piece_end Within zero q text reads = absurd reads
piece_end Within (suc n) q [] reads = absurd reads
piece_end Within (suc n) q (b ∷ bs) reads = along_end Within n (m4.after q (b ∷ bs)) bs reads

joined : (m n : ℕ) (q : Quotes) (text : List ℕ) → quotes_after q (m + n) text ≡ quotes_after (quotes_after q m text) n (drop m text)
unfolding quotes_after
joined zero n q text = ap (λ (k : ℕ). quotes_after q k text) (let e : 0 + n ≡ n = omega arith in e)
joined (suc m) n q [] = ap (λ (k : ℕ). quotes_after q k []) (let e : suc m + n ≡ suc (m + n) = omega arith in e) ∙ at_end n q where
  at_end : (n : ℕ) (q : Quotes) → quotes_after q (suc (m + n)) [] ≡ quotes_after q n []
  at_end zero q = refl
  at_end (suc n) q = refl
joined (suc m) n q (b ∷ bs) = ap (λ (k : ℕ). quotes_after q k (b ∷ bs)) (let e : suc m + n ≡ suc (m + n) = omega arith in e) ∙ joined m n (m4.after q (b ∷ bs)) bs

pieces_end : {room : ℕ} {text : List ℕ} {n : ℕ} → ArePieces room text n → (q : Quotes) → room ≤ 255 → IsBetween q text → IsBetween (quotes_after q n text) (drop n text)
unfolding quotes_after
pieces_end no_more q fits between = between
pieces_end (one_more {room} {k} {n} {text} piece more) q fits between =
    let first : IsBetween (quotes_after q k text) (drop k text) = piece_end (λ within. Unit {0}) k q text (reads_piece room k q text fits between piece) in
    let last : IsBetween (quotes_after (quotes_after q k text) n (drop k text)) (drop n (drop k text)) = pieces_end more (quotes_after q k text) fits first in
    subst (λ (r : Quotes). IsBetween r (drop (k + n) text)) (sym (joined k n q text))
    (subst (λ (t : List ℕ). IsBetween (quotes_after (quotes_after q k text) n (drop k text)) t) (drop-drop n k text) last)

pub after_pieces : (room n : ℕ) (text : List ℕ) → room ≤ 255 → ArePieces room text n → IsBetween (scan_at n text).quotes (drop n text)
after_pieces room n text fits pieces =
    subst (λ (q : Quotes). IsBetween q (drop n text)) (sym (quotes_of n text_start text)) (pieces_end pieces m4.none_open fits (in_open never))
