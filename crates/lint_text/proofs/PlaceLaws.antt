-- Two offsets of one place are one offset.
use Rattle.std.proofs.Common.{◌≡◌, ℕ, zero, suc, ◌+◌, ◌-◌, ◌<◌, ◌≤◌, Bool, true, false, cond, not, ◌==◌, List, [], ◌∷◌, ◌++◌, length, take, drop, reverse, sym, ap, ◌∙◌, arith, ⊎_elim, length-drop, length-take-le, refl}
use Rattle.std.specs.List.{count_by, prefix_len, suffix_len}
use Rattle.std.proofs.Math.Seq.{take-add}
use Rattle.std.proofs.lemmas.Bool.{cases_Bool, cases_eq, cases_lt}
use Rattle.std.proofs.lemmas.List.{reverse-append, append_assoc}
use Rattle.std.proofs.lemmas.List.Sums.{sum_by-append, sum_by-cons}
use Rattle.lint_text.specs.Parts.{is_newline, is_in_line, before}
use Rattle.lint_text.specs.Places.{position_of}

is_counted : (b n : ℕ) → is_newline b ≡ true → cond (is_newline b) 1 0 + n ≡ 0 → ⊥
is_counted b n newline none =
    let e : ◌≡◌ {A = ℕ} (cond (is_newline b) 1 0) 1 = ap (λ t. cond t 1 0) newline in
    omega (arith, e, none)

-- a byte at the front of a text without newlines
in_line : (b n : ℕ) → cond (is_newline b) 1 0 + n ≡ 0 → is_in_line b ≡ true
in_line b n none = ⊎_elim (λ (newline : is_newline b ≡ true). absurd (is_counted b n newline none)) (λ (other : is_newline b ≡ false). ap not other) (cases_Bool (is_newline b))

rest_none : (b : ℕ) (n : ℕ) → cond (is_newline b) 1 0 + n ≡ 0 → n ≡ 0
rest_none b n none = omega arith

-- bytes without a newline in front of others are in their line
in_front : (ys zs : List ℕ) → count_by is_newline ys ≡ 0 → prefix_len is_in_line (reverse ys ++ zs) ≡ length ys + prefix_len is_in_line zs
in_front [] zs none = sym (omega arith)
in_front (y ∷ ys) zs none =
    let parts = sum_by-cons (λ x. cond (is_newline x) 1 0) y ys in
    let whole = sym parts ∙ none in
    let later = in_front ys (y ∷ zs) (rest_none y _ whole) in
    let split : reverse (y ∷ ys) ++ zs ≡ reverse ys ++ (y ∷ zs) = ap (λ t. t ++ zs) (reverse-append (y ∷ []) ys) ∙ append_assoc (reverse ys) (y ∷ []) zs in
    let one : prefix_len is_in_line (y ∷ zs) ≡ 1 + prefix_len is_in_line zs = ap (λ t. cond t (1 + prefix_len is_in_line zs) 0) (in_line y _ whole) in
    let all = ap (prefix_len is_in_line) split ∙ later in
    omega (arith, all, one)

later : (text : List ℕ) (a n : ℕ) → a + n ≤ length text → position_of text a ≡ position_of text (a + n) → n ≡ 0
unfolding position_of
later text a n inside same =
    let xs = take a text in
    let ys = take n (drop a text) in
    let parts : take (a + n) text ≡ xs ++ ys = take-add a n text in
    let rest = length-drop a text in
    let size : length ys ≡ n = length-take-le n (drop a text) (omega arith) in
    let lines : count_by is_newline xs + 1 ≡ count_by is_newline (take (a + n) text) + 1 = ap (λ p. p.line) same in
    let columns : suffix_len is_in_line xs + 1 ≡ suffix_len is_in_line (take (a + n) text) + 1 = ap (λ p. p.column) same in
    let counted : count_by is_newline (take (a + n) text) ≡ count_by is_newline xs + count_by is_newline ys =
    ap (count_by is_newline) parts ∙ sum_by-append (λ x. cond (is_newline x) 1 0) xs ys in
    let none : count_by is_newline ys ≡ 0 = omega (arith, lines, counted) in
    let since : suffix_len is_in_line (take (a + n) text) ≡ length ys + suffix_len is_in_line xs =
    ap (suffix_len is_in_line) parts ∙ ap (prefix_len is_in_line) (reverse-append xs ys) ∙ in_front ys (reverse xs) none in
    omega (arith, columns, since, size)

ordered : (text : List ℕ) (a b : ℕ) → a ≤ b → b ≤ length text → position_of text a ≡ position_of text b → a ≡ b
ordered text a b le inside same =
    let sum : a + (b - a) ≡ b = omega arith in
    let none = later text a (b - a) (omega arith) (same ∙ ap (position_of text) (sym sum)) in
    omega arith

pub one_place : (text : List ℕ) (a b : ℕ) → a ≤ length text → b ≤ length text → position_of text a ≡ position_of text b → a ≡ b
one_place text a b in_a in_b same =
    ⊎_elim (λ (lt : a < b). ordered text a b (omega arith) in_b same) (λ (ge : b ≤ a). sym (ordered text b a ge in_a (sym same))) (cases_lt a b)
