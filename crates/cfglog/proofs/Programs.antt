-- Texts that get a newline, and the lines of a program.
use Rattle.std.proofs.Common.{◌≡◌, ◌≢◌, ◌⊎◌, ◌+◌, ◌-◌, ◌<◌, ◌≤◌, ◌==◌, ℕ, zero, suc, Bool, true, false, cond, List, [], ◌∷◌, ◌++◌, length, take, drop, refl, sym, ap, subst, ◌∙◌, arith, inl, inr, ⊎_elim, codes, nat_eq, map, flat_map, append_assoc}
use Rattle.std.proofs.lemmas.Bool.{cases_Bool, cond-true, cond-false, eqb-true, ne_eqb}
use Rattle.std.proofs.lemmas.Bool.Decides.{Decides-eqb}
use Rattle.std.proofs.lemmas.Slice.Eq.{ends_is}
use Rattle.std.specs.List.{ends_with}
use Rattle.bstr.specs.Text.{line_len, lines_from, lines_of}
use Rattle.conftest_source.specs.Sources.{ended}
use Rattle.cfglog.specs.Texts.{closed}
use Rattle.cfglog.specs.Written.{program_line}
use Rattle.cfglog.proofs.OneLine.{IsFlat, IsClosed, flat_append, one_line, lines_after, closed_append}

-- what the test of a newline at the end says
ends_true : (text : List ℕ) → ends_with nat_eq text (10 ∷ []) ≡ true → (xs : List ℕ) × (text ≡ xs ++ 10 ∷ [])
ends_true text h = (take (length text - 1) text, (ends_is Decides-eqb text (10 ∷ []) true (sym h)).0 refl)

pub ends_made : (xs : List ℕ) → ends_with nat_eq (xs ++ 10 ∷ []) (10 ∷ []) ≡ true
ends_made xs = (ends_is Decides-eqb (xs ++ 10 ∷ []) (10 ∷ []) (ends_with nat_eq (xs ++ 10 ∷ []) (10 ∷ [])) refl).1 xs refl

ended_closed : (text : List ℕ) → IsClosed (ended text)
unfolding ended
ended_closed text = ⊎_elim
    (λ yes. inr ((ends_true text yes).0, cond-true _ _ _ yes ∙ (ends_true text yes).1))
    (λ no. inr (text, cond-false _ _ _ no))
    (cases_Bool (ends_with nat_eq text (codes "\n")))

closed_some : (text : List ℕ) → 0 < length text → closed text ≡ ended text
unfolding closed
closed_some text some = cond-false _ _ _ (ne_eqb (length text) 0 (λ none. absurd (omega arith)))

pub closed_closed : (text : List ℕ) → IsClosed (closed text)
unfolding closed
closed_closed [] = inl refl
closed_closed (x ∷ xs) = subst IsClosed (sym (closed_some (x ∷ xs) (omega arith))) (ended_closed (x ∷ xs))

not_flat : (xs : List ℕ) → IsFlat (xs ++ 10 ∷ []) → ⊥
not_flat [] h = absurd (let e : true ≡ false = h.0 in cc)
not_flat (x ∷ xs) h = not_flat xs h.1

-- a line: bytes without a newline, and one newline unless the text ends
abbrev pub IsLine : List ℕ → Type 0
IsLine line = (xs : List ℕ) × IsFlat xs × ((line ≡ xs ++ 10 ∷ []) ⊎ ((line ≡ xs) × (0 < length xs)))

ended_flat : (xs : List ℕ) → IsFlat xs → ended xs ≡ xs ++ 10 ∷ []
unfolding ended
ended_flat xs h = ⊎_elim
    (λ yes. absurd (not_flat (ends_true xs yes).0 (subst IsFlat (ends_true xs yes).1 h)))
    (λ no. cond-false _ _ _ no)
    (cases_Bool (ends_with nat_eq xs (codes "\n")))

ended_made : (xs : List ℕ) → ended (xs ++ 10 ∷ []) ≡ xs ++ 10 ∷ []
unfolding ended
ended_made xs = cond-true _ _ _ (ends_made xs)

some_made : (xs : List ℕ) → 0 < length (xs ++ 10 ∷ [])
some_made [] = omega arith
some_made (x ∷ xs) = omega arith

pub closed_line : (line : List ℕ) (h : IsLine line) → closed line ≡ h.0 ++ 10 ∷ []
closed_line line h = ⊎_elim
    (λ whole. ap closed whole ∙ closed_some (h.0 ++ 10 ∷ []) (some_made h.0) ∙ ended_made h.0)
    (λ part. ap closed part.0 ∙ closed_some h.0 part.1 ∙ ended_flat h.0 h.1)
    h.2

before_line : (b : ℕ) (line : List ℕ) → (b == 10) ≡ false → IsLine line → IsLine (b ∷ line)
before_line b line other h = (
  b ∷ h.0,
  (other, h.1),
  ⊎_elim
      (λ whole. inl (ap (λ t. b ∷ t) whole))
      (λ part. inr (ap (λ t. b ∷ t) part.0, omega arith))
      h.2,
)

alone : (b : ℕ) → (b == 10) ≡ false → IsLine (b ∷ [])
alone b other = (b ∷ [], (other, tt), inr (refl, omega arith))

first_line : (bs : List ℕ) → 0 < length bs → IsLine (take (line_len bs) bs)
unfolding line_len
first_line [] some = absurd (omega arith)
first_line (b ∷ []) some = ⊎_elim
    (λ yes. subst (λ n. IsLine (take n (b ∷ []))) (sym (cond-true _ _ _ yes)) ([], tt, inl (ap (λ v. v ∷ []) (eqb-true b 10 yes))))
    (λ no. subst (λ n. IsLine (take n (b ∷ []))) (sym (cond-false _ _ _ no)) (alone b no))
    (cases_Bool (b == 10))
first_line (b ∷ c ∷ rest) some = ⊎_elim
    (λ yes. subst (λ n. IsLine (take n (b ∷ c ∷ rest))) (sym (cond-true _ _ _ yes)) ([], tt, inl (ap (λ v. v ∷ []) (eqb-true b 10 yes))))
    (λ no. subst (λ n. IsLine (take n (b ∷ c ∷ rest))) (sym (cond-false _ _ _ no))
    (before_line b (take (line_len (c ∷ rest)) (c ∷ rest)) no (first_line (c ∷ rest) (omega arith))))
    (cases_Bool (b == 10))

abbrev pub AreLines : List (List ℕ) → Type 0
AreLines [] = Unit {0}
AreLines (line ∷ rest) = IsLine line × AreLines rest

lines_are : (n : ℕ) (bs : List ℕ) → AreLines (lines_from n bs)
unfolding lines_from
lines_are zero bs = tt
lines_are (suc n) [] = tt
lines_are (suc n) (b ∷ rest) = (first_line (b ∷ rest) (omega arith), lines_are n (drop (line_len (b ∷ rest)) (b ∷ rest)))

pub lines_are_lines : (bs : List ℕ) → AreLines (lines_of bs)
lines_are_lines bs = lines_are (length bs) bs

-- a line of a program that failed
line_is : (line : List ℕ) (h : IsLine line) → program_line line ≡ (codes "| " ++ h.0) ++ 10 ∷ []
line_is line h = ap (λ t. codes "| " ++ t) (closed_line line h) ∙ sym (append_assoc (codes "| ") h.0 (10 ∷ []))

flat_front : (xs : List ℕ) → IsFlat xs → IsFlat (codes "| " ++ xs)
flat_front xs h = (refl, (refl, h))

one_program_line : (line : List ℕ) → IsLine line → lines_of (program_line line) ≡ program_line line ∷ []
one_program_line line h = subst (λ t. lines_of t ≡ t ∷ []) (sym (line_is line h)) (one_line (codes "| " ++ h.0) (flat_front h.0 h.1))

program_line_closed : (line : List ℕ) → IsLine line → IsClosed (program_line line)
program_line_closed line h = inr (codes "| " ++ h.0, line_is line h)

pub program_closed : (ls : List (List ℕ)) → AreLines ls → IsClosed (flat_map program_line ls)
program_closed [] h = inl refl
program_closed (l ∷ ls) h = closed_append (program_line l) (flat_map program_line ls) (program_line_closed l h.0) (program_closed ls h.1)

pub program_lines : (ls : List (List ℕ)) → AreLines ls → lines_of (flat_map program_line ls) ≡ map program_line ls
unfolding lines_from
program_lines [] h = refl
program_lines (l ∷ ls) h =
    lines_after (program_line l) (flat_map program_line ls) (program_line_closed l h.0)
    ∙ ap (λ t. t ++ lines_of (flat_map program_line ls)) (one_program_line l h.0)
    ∙ ap (λ t. program_line l ∷ t) (program_lines ls h.1)
