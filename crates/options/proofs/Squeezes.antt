-- A text in which each run of blanks becomes one space, one byte further.
use Rattle.std.proofs.Common.{◌≡◌, ℕ, ◌+◌, ◌<◌, ◌≤◌, Bool, List, [], ◌∷◌, ◌++◌, length, drop, get_or, sym, ap, ◌∙◌, append_assoc}
use Rattle.std.proofs.lemmas.List.{drop_more, append-nil}
use Rattle.std.proofs.Math.ListN.{drop_of_length-le}
use Rattle.text_cut.specs.Cuts.{is_blank}
use Rattle.options.specs.HelpText.{squeezed_byte, squeezed_after}

pub squeezed_more : (total now next : List ℕ) (blank after : Bool) (xs : List ℕ) (i d : ℕ) → i < length xs
    → next ≡ now ++ squeezed_byte blank (get_or xs i d) → after ≡ is_blank (get_or xs i d)
    → now ++ squeezed_after blank (drop i xs) ≡ total → next ++ squeezed_after after (drop (i + 1) xs) ≡ total
unfolding squeezed_after
squeezed_more total now next blank after xs i d lt one is h =
    let rest : List ℕ = squeezed_after (is_blank (get_or xs i d)) (drop (i + 1) xs) in
    ap (λ b. next ++ squeezed_after b (drop (i + 1) xs)) is
    ∙ ap (λ t. t ++ rest) one ∙ append_assoc now (squeezed_byte blank (get_or xs i d)) rest
    ∙ sym (ap (λ ys. now ++ squeezed_after blank ys) (drop_more xs i d lt)) ∙ h

pub squeezed_end : (total now : List ℕ) (blank : Bool) (xs : List ℕ) (i : ℕ) → length xs ≤ i
    → now ++ squeezed_after blank (drop i xs) ≡ total → now ≡ total
unfolding squeezed_after
squeezed_end total now blank xs i le h =
    sym (ap (λ ys. now ++ squeezed_after blank ys) (drop_of_length-le xs le) ∙ append-nil now) ∙ h

-- Two elements that are pushed one after the other.
pub two_more : {A : Type 0} (start one two : List A) (a b x y : A) → one ≡ start ++ a ∷ [] → two ≡ one ++ b ∷ [] → a ≡ x → b ≡ y → two ≡ start ++ x ∷ y ∷ []
two_more start one two a b x y first second is_first is_second =
    second ∙ ap (λ t. t ++ b ∷ []) first ∙ append_assoc start (a ∷ []) (b ∷ []) ∙ ap (λ t. start ++ t ∷ b ∷ []) is_first ∙ ap (λ t. start ++ x ∷ t ∷ []) is_second
