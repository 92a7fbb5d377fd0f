-- Places in lists.
use Rattle.std.proofs.Common.{◌≡◌, ℕ, zero, suc, ◌-◌, ◌<◌, ◌≤◌, List, [], ◌∷◌, ◌++◌, map, length, get_or, refl, ap, ◌∙◌, arith}
use Rattle.std.specs.Prelude.{Option, Some, None, slice_get}

pub there : {A : Type 0} (xs : List A) (i : ℕ) (d : A) → i < length xs → slice_get xs i ≡ Some (get_or xs i d)
there [] i d lt = absurd (omega (arith, lt))
there (x ∷ xs) zero d lt = refl
there (x ∷ xs) (suc i) d lt = there xs i d (omega (arith, lt))

pub past : {A : Type 0} (xs : List A) (i : ℕ) → length xs ≤ i → slice_get xs i ≡ None
past [] zero le = refl
past [] (suc i) le = refl
past (x ∷ xs) zero le = absurd (omega (arith, le))
past (x ∷ xs) (suc i) le = past xs i (omega (arith, le))

pub mapped_there : {A B : Type 0} (f : A → B) (xs : List A) (i : ℕ) (d : A) → i < length xs → slice_get (map f xs) i ≡ Some (f (get_or xs i d))
mapped_there f [] i d lt = absurd (omega (arith, lt))
mapped_there f (x ∷ xs) zero d lt = refl
mapped_there f (x ∷ xs) (suc i) d lt = mapped_there f xs i d (omega (arith, lt))

pub mapped_past : {A B : Type 0} (f : A → B) (xs : List A) (i : ℕ) → length xs ≤ i → slice_get (map f xs) i ≡ None
mapped_past f [] zero le = refl
mapped_past f [] (suc i) le = refl
mapped_past f (x ∷ xs) zero le = absurd (omega (arith, le))
mapped_past f (x ∷ xs) (suc i) le = mapped_past f xs i (omega (arith, le))

-- What is after the first.
pub later : {A : Type 0} (x : A) (xs : List A) (i n : ℕ) (r : Option A) → (i ≡ 0 → ⊥) → n ≡ i - 1 → r ≡ slice_get xs n → r ≡ slice_get (x ∷ xs) i
later x xs zero n r is_later at found = absurd (is_later refl)
later x xs (suc i) n r is_later at found = found ∙ ap (slice_get xs) (omega (arith, at))
