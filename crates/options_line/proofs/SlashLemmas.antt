-- A text without its final slashes, from its end on.
use Rattle.std.proofs.Common.{◌≡◌, ℕ, ◌==◌, Bool, true, false, ◌&&◌, List, [], ◌∷◌, ◌++◌, if◌then◌else◌, length, refl, ap, ◌∙◌, arith}
use Rattle.std.proofs.lemmas.List.Folds.{list_all-append}
use Rattle.options_line.specs.Slashes.{is_slashes, unslashed}

and_true : (b : Bool) → (b && true) ≡ b
and_true true = refl
and_true false = refl

and_false : (b : Bool) → (b && false) ≡ false
and_false true = refl
and_false false = refl

pub slash_dropped : (front : List ℕ) → unslashed (front ++ 47 ∷ []) ≡ unslashed front
unfolding unslashed
slash_dropped [] = refl
slash_dropped (b ∷ bs) =
    let e : is_slashes (b ∷ (bs ++ 47 ∷ [])) ≡ is_slashes (b ∷ bs) =
    list_all-append (λ x. x == 47) (b ∷ bs) (47 ∷ []) ∙ and_true (is_slashes (b ∷ bs)) in
    ap (λ all. if all then [] else b ∷ unslashed (bs ++ 47 ∷ [])) e
    ∙ ap (λ rest. if is_slashes (b ∷ bs) then [] else b ∷ rest) (slash_dropped bs)

pub other_stays : (front : List ℕ) (x : ℕ) → (x == 47) ≡ false → unslashed (front ++ x ∷ []) ≡ front ++ x ∷ []
unfolding unslashed
other_stays [] x other = ap (λ b. if b && true then [] else x ∷ []) other
other_stays (b ∷ bs) x other =
    let e : is_slashes (b ∷ (bs ++ x ∷ [])) ≡ false =
    list_all-append (λ x. x == 47) (b ∷ bs) (x ∷ []) ∙ ap (λ c. is_slashes (b ∷ bs) && (c && true)) other ∙ and_false (is_slashes (b ∷ bs)) in
    ap (λ all. if all then [] else b ∷ unslashed (bs ++ x ∷ [])) e ∙ ap (λ rest. b ∷ rest) (other_stays bs x other)

pub none_left : (text : List ℕ) → length text ≡ 0 → unslashed text ≡ text
unfolding unslashed
none_left [] e = refl
none_left (b ∷ bs) e = absurd (omega (arith, e))
