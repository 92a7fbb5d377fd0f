-- Texts of one line.
use Rattle.std.proofs.Common.{◌≡◌, ◌≢◌, ◌⊎◌, ◌+◌, ◌-◌, ◌<◌, ◌≤◌, ◌==◌, ℕ, zero, suc, Bool, true, false, cond, List, [], ◌∷◌, ◌++◌, length, length-append, take, drop, take_all, slice_index, refl, sym, ap, subst, ◌∙◌, arith, inl, inr, ⊎_elim, codes, nat_eq, map, flat_map, append_assoc, append-nil}
use Rattle.std.proofs.lemmas.Bool.{cases_Bool, cond-true, cond-false, eq-eqb, ne_eqb}
use Rattle.std.proofs.lemmas.List.{drop_all}
use Rattle.std.proofs.lemmas.Str.Parse.{digit_from_value}
use Rattle.std.specs.Str.Parse.{AllDigits}
use Rattle.bstr.specs.Text.{line_len, lines_of}
use Rattle.bstr.proofs.lemmas.LineLemmas.{EndsLine, lines-step, lines-nil, lines-append}

-- no byte is a newline
abbrev pub IsFlat : List ℕ → Type 0
IsFlat [] = Unit {0}
IsFlat (b ∷ bs) = ((b == 10) ≡ false) × IsFlat bs

pub flat_append : (xs ys : List ℕ) → IsFlat xs → IsFlat ys → IsFlat (xs ++ ys)
flat_append [] ys hx hy = hy
flat_append (b ∷ bs) ys hx hy = (hx.0, flat_append bs ys hx.1 hy)

pub flat_digits : (ds : List ℕ) → AllDigits 10 ds → IsFlat ds
flat_digits [] h = tt
flat_digits (c ∷ cs) h =
    let range = digit_from_value c h.0 in
    let other : c ≢ 10 = λ e. absurd (omega (arith, range)) in
    (ne_eqb c 10 other, flat_digits cs h.1)

-- how long the line is
line_len-flat : (xs : List ℕ) → IsFlat xs → line_len (xs ++ 10 ∷ []) ≡ length (xs ++ 10 ∷ [])
unfolding line_len
line_len-flat [] h = refl
line_len-flat (b ∷ bs) h = cond-false _ _ _ h.0 ∙ ap suc (line_len-flat bs h.1)

pub one_line : (xs : List ℕ) → IsFlat xs → lines_of (xs ++ 10 ∷ []) ≡ (xs ++ 10 ∷ []) ∷ []
one_line xs h =
    let t = xs ++ 10 ∷ [] in
    let long = length-append xs (10 ∷ []) in
    lines-step t (omega (arith, long)) ∙ ap (λ k. take k t ∷ lines_of (drop k t)) (line_len-flat xs h)
    ∙ ap (λ l. l ∷ lines_of (drop (length t) t)) (take_all (length t) t (omega arith))
    ∙ ap (λ l. t ∷ lines_of l) (drop_all (length t) t (omega arith)) ∙ ap (λ l. t ∷ l) lines-nil

last_newline : (xs : List ℕ) → slice_index (xs ++ 10 ∷ []) (length (xs ++ 10 ∷ []) - 1) ≡ 10
last_newline [] = refl
last_newline (x ∷ xs) =
    let place : length (x ∷ (xs ++ 10 ∷ [])) - 1 ≡ suc (length (xs ++ 10 ∷ []) - 1) = omega (arith, length-append xs (10 ∷ [])) in
    subst (λ j. slice_index (x ∷ (xs ++ 10 ∷ [])) j ≡ 10) (sym place) (last_newline xs)

-- the text is empty, or its last byte is a newline
abbrev pub IsClosed : List ℕ → Type 0
IsClosed text = (text ≡ []) ⊎ ((xs : List ℕ) × (text ≡ xs ++ 10 ∷ []))

pub ends_line : (text : List ℕ) → IsClosed text → EndsLine text
ends_line text h = ⊎_elim
    (λ none. inl (ap length none))
    (λ some. inr (subst (λ t. slice_index t (length t - 1) ≡ 10) (sym some.1) (last_newline some.0)))
    h

-- lines of a closed text and of what follows it
pub lines_after : (text rest : List ℕ) → IsClosed text → lines_of (text ++ rest) ≡ lines_of text ++ lines_of rest
lines_after text rest h = lines-append (length text) text rest (omega arith) (ends_line text h)

closed_front : (xs ys : List ℕ) → IsClosed ys → (ys ≡ []) ⊎ ((zs : List ℕ) × (xs ++ ys ≡ zs ++ 10 ∷ []))
closed_front xs ys h = ⊎_elim
    (λ none. inl none)
    (λ some. inr (xs ++ some.0, ap (λ t. xs ++ t) some.1 ∙ sym (append_assoc xs some.0 (10 ∷ []))))
    h

pub closed_append : (xs ys : List ℕ) → IsClosed xs → IsClosed ys → IsClosed (xs ++ ys)
closed_append xs ys hx hy = ⊎_elim
    (λ none. subst (λ t. IsClosed (xs ++ t)) (sym none) (subst IsClosed (sym (append-nil xs)) hx))
    (λ some. inr some)
    (closed_front xs ys hy)
