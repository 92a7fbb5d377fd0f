-- What is shown of a text that grows.
use Rattle.std.proofs.Common.{◌≡◌, ℕ, zero, suc, ◌+◌, ◌<◌, ◌≤◌, List, [], ◌∷◌, ◌++◌, length, take, get_or, sym, ap, ◌∙◌, refl, cond, true, false, arith, append_assoc, ⊎_elim, ◌⊎◌}
use Rattle.std.proofs.lemmas.List.{take_more}
use Rattle.std.proofs.lemmas.List.Sums.{fold-append}
use Rattle.text_controls.specs.declared.awaited.Awaited.{Awaited}
use Rattle.text_controls.specs.Form.{shown, awaited_after, after, is_escaped, escape}

pub shown-append : (w : Awaited) (xs ys : List ℕ) → shown w (xs ++ ys) ≡ shown w xs ++ shown (awaited_after w xs) ys
shown-append w [] ys = refl
shown-append w (x ∷ xs) ys =
    let front : List ℕ = cond (is_escaped w x) (escape x) (x ∷ []) in
    ap (λ v. front ++ v) (shown-append (after w x) xs ys) ∙ sym (append_assoc front (shown (after w x) xs) (shown (awaited_after (after w x) xs) ys))

-- Each front of the text that has at most n bytes is shown as it is.
pub record IsPlain (w : Awaited) (text : List ℕ) (n : ℕ) : Type 0 where
  pub fronts : (k : ℕ) → k ≤ n → shown w (take k text) ≡ take k text

pub plain_none : (w : Awaited) (text : List ℕ) → IsPlain w text 0
plain_none w text = record { fronts = λ k le. let none : k ≡ 0 = omega arith in ap (λ n. shown w (take n text)) none ∙ sym (ap (λ n. take n text) none) }

at_or_below : (k n : ℕ) → k ≤ n + 1 → (k ≤ n) ⊎ (k ≡ n + 1)
at_or_below k n le = grind arith

pub plain_more : (w lacking : Awaited) (text : List ℕ) (n : ℕ) → n < length text → lacking ≡ awaited_after w (take n text) → IsPlain w text n
    → is_escaped lacking (get_or text n 0) ≡ false → IsPlain w text (n + 1)
plain_more w lacking text n lt is plain test =
    let b : ℕ = get_or text n 0 in
    let more : take (n + 1) text ≡ take n text ++ b ∷ [] = take_more text n 0 lt in
    let unescaped : is_escaped (awaited_after w (take n text)) b ≡ false = ap (λ v. is_escaped v b) (sym is) ∙ test in
    let one : shown (awaited_after w (take n text)) (b ∷ []) ≡ b ∷ [] = ap (λ v. cond v (escape b) (b ∷ []) ++ []) unescaped in
    let whole : shown w (take (n + 1) text) ≡ take (n + 1) text =
    ap (shown w) more ∙ shown-append w (take n text) (b ∷ []) ∙ ap (λ v. v ++ shown (awaited_after w (take n text)) (b ∷ [])) (plain.fronts n (omega arith))
    ∙ ap (λ v. take n text ++ v) one ∙ sym more in
    record { fronts = λ k le. ⊎_elim (λ below. plain.fronts k below) (λ same. ap (λ m. shown w (take m text)) same ∙ whole ∙ sym (ap (λ m. take m text) same)) (at_or_below k n le) }

pub after_more : (w lacking next : Awaited) (text : List ℕ) (n : ℕ) → n < length text → lacking ≡ awaited_after w (take n text) → next ≡ after lacking (get_or text n 0)
    → next ≡ awaited_after w (take (n + 1) text)
after_more w lacking next text n lt is next_is =
    next_is ∙ ap (λ v. after v (get_or text n 0)) is ∙ sym (ap (awaited_after w) (take_more text n 0 lt) ∙ fold-append after w (take n text) (get_or text n 0 ∷ []))

pub plain_all : (w : Awaited) (text : List ℕ) (n : ℕ) → length text ≤ n → IsPlain w text n → (k : ℕ) → k ≤ length text → shown w (take k text) ≡ take k text
plain_all w text n le plain k below = plain.fronts k (omega arith)

differ : true ≡ false → ⊥
differ e = cc

-- The first byte of a text in which a byte is escaped, before which none is, if that byte isn't the first.
pub not_at_front : (w lacking : Awaited) (text : List ℕ) (n : ℕ) → lacking ≡ awaited_after w (take n text) → is_escaped lacking (get_or text n 0) ≡ true
    → is_escaped w (get_or text 0 0) ≡ false → 0 < n
not_at_front w lacking text zero is escaped plain = absurd (differ (sym escaped ∙ ap (λ v. is_escaped v (get_or text 0 0)) is ∙ plain))
not_at_front w lacking text (suc n) is escaped plain = omega arith
