-- A text with `_cv_` in it, from a byte on.
use Rattle.std.proofs.Common.{◌≡◌, ℕ, ◌+◌, ◌<◌, ◌≤◌, Bool, true, false, ◌||◌, List, length, drop, sym, ap, ◌∙◌}
use Rattle.std.specs.Prelude.{nat_eq, codes}
use Rattle.std.specs.List.{starts_with}
use Rattle.std.proofs.lemmas.List.{drop_more}
use Rattle.std.proofs.Math.ListN.{drop_of_length-le}
use Rattle.deftable.specs.CacheName.{has_cv}

pub cv_more : (whole : Bool) (xs : List ℕ) (i : ℕ) → i < length xs → starts_with nat_eq (drop i xs) (codes "_cv_") ≡ false → whole ≡ has_cv (drop i xs) → whole ≡ has_cv (drop (i + 1) xs)
unfolding has_cv
cv_more whole xs i lt is h =
    let e = drop_more xs i 0 lt in
    h ∙ ap has_cv e ∙ ap (λ b. b || has_cv (drop (i + 1) xs)) (sym (ap (λ t. starts_with nat_eq t (codes "_cv_")) e) ∙ is)

pub cv_stop : (whole : Bool) (xs : List ℕ) (i : ℕ) → i < length xs → starts_with nat_eq (drop i xs) (codes "_cv_") ≡ true → whole ≡ has_cv (drop i xs) → whole ≡ true
unfolding has_cv
cv_stop whole xs i lt is h =
    let e = drop_more xs i 0 lt in
    h ∙ ap has_cv e ∙ ap (λ b. b || has_cv (drop (i + 1) xs)) (sym (ap (λ t. starts_with nat_eq t (codes "_cv_")) e) ∙ is)

pub cv_end : (whole : Bool) (xs : List ℕ) (i : ℕ) → length xs ≤ i → whole ≡ has_cv (drop i xs) → whole ≡ false
unfolding has_cv
cv_end whole xs i le h = h ∙ ap has_cv (drop_of_length-le xs le)
