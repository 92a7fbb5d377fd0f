-- One write to a list.
use Rattle.std.proofs.Common.{◌≡◌, ℕ, zero, suc, ◌+◌, ◌<◌, ◌≤◌, List, [], ◌∷◌, length, Option, Some, None, refl, ap, ◌∙◌, arith, replicate}
use Rattle.std.specs.Prelude.{slice_get, slice_set}
use Rattle.std.proofs.Math.ListN.{length-replicate}
use Rattle.proberun.specs.Serving.{AllFree, held_count}

pub get-set_same : {A : Type 0} (xs : List A) (i : ℕ) (x y : A) → slice_get xs i ≡ Some x → slice_get (slice_set xs i y) i ≡ Some y
get-set_same [] i x y e = cc
get-set_same (z ∷ xs) zero x y e = refl
get-set_same (z ∷ xs) (suc i) x y e = get-set_same xs i x y e

pub get-set_other : {A : Type 0} (xs : List A) (i j : ℕ) (y : A) → (j ≡ i → ⊥) → slice_get (slice_set xs i y) j ≡ slice_get xs j
get-set_other [] i j y ne = refl
get-set_other (z ∷ xs) zero zero y ne = absurd (ne refl)
get-set_other (z ∷ xs) zero (suc j) y ne = refl
get-set_other (z ∷ xs) (suc i) zero y ne = refl
get-set_other (z ∷ xs) (suc i) (suc j) y ne = get-set_other xs i j y (λ e. ne (ap suc e))

pub get-replicate : {A : Type 0} (n i : ℕ) (a : A) → i < n → slice_get (replicate n a) i ≡ Some a
get-replicate zero i a lt = absurd (omega arith)
get-replicate (suc n) zero a lt = refl
get-replicate (suc n) (suc i) a lt = get-replicate n i a (omega arith)

pub get-past : {A : Type 0} (xs : List A) (i : ℕ) → length xs ≤ i → slice_get xs i ≡ None
get-past [] i le = refl
get-past (z ∷ xs) zero le = absurd (omega arith)
get-past (z ∷ xs) (suc i) le = get-past xs i (omega arith)

pub free_replicate : (n : ℕ) (table : List (Option ℕ)) → table ≡ replicate n None → (length table ≡ n) × AllFree table
free_replicate n table e =
    let len : length table ≡ n = ap length e ∙ length-replicate n None in
    (len, record { each = λ s lt. ap (λ l. slice_get l s) e ∙ get-replicate n s None (omega arith) })

pub held-set_job : (table : List (Option ℕ)) (s k : ℕ) → slice_get table s ≡ Some None → held_count (slice_set table s (Some k)) ≡ held_count table + 1
held-set_job [] s k e = cc
held-set_job (None ∷ t) zero k e = refl
held-set_job (Some x ∷ t) zero k e = let same : Some x ≡ None = cc in cc
held-set_job (None ∷ t) (suc s) k e = held-set_job t s k e
held-set_job (Some x ∷ t) (suc s) k e = let h = held-set_job t s k e in omega arith

pub held-set_none : (table : List (Option ℕ)) (s k : ℕ) → slice_get table s ≡ Some (Some k) → held_count (slice_set table s None) + 1 ≡ held_count table
held-set_none [] s k e = cc
held-set_none (None ∷ t) zero k e = let same : None ≡ Some k = cc in cc
held-set_none (Some x ∷ t) zero k e = refl
held-set_none (None ∷ t) (suc s) k e = held-set_none t s k e
held-set_none (Some x ∷ t) (suc s) k e = let h = held-set_none t s k e in omega arith

pub held-most : (table : List (Option ℕ)) → held_count table ≤ length table
held-most [] = omega arith
held-most (None ∷ t) = let h = held-most t in omega arith
held-most (Some x ∷ t) = let h = held-most t in omega arith

pub held-free : (table : List (Option ℕ)) (s : ℕ) → slice_get table s ≡ Some None → held_count table < length table
held-free [] s e = cc
held-free (None ∷ t) zero e = let h = held-most t in omega arith
held-free (Some x ∷ t) zero e = let same : Some x ≡ None = cc in cc
held-free (None ∷ t) (suc s) e = let h = held-free t s e in omega arith
held-free (Some x ∷ t) (suc s) e = let h = held-free t s e in omega arith

pub held-all : (table : List (Option ℕ)) → ((s : ℕ) → s < length table → (k : ℕ) × (slice_get table s ≡ Some (Some k))) → held_count table ≡ length table
held-all [] h = refl
held-all (None ∷ t) h = let a = h 0 (omega arith) in let e : Some None ≡ Some (Some a.0) = a.1 in cc
held-all (Some x ∷ t) h = let e = held-all t (λ s lt. h (suc s) (omega arith)) in omega arith

pub held-none : (table : List (Option ℕ)) → ((s : ℕ) → s < length table → slice_get table s ≡ Some None) → held_count table ≡ 0
held-none [] h = refl
held-none (None ∷ t) h = held-none t (λ s lt. h (suc s) (omega arith))
held-none (Some x ∷ t) h = let e : Some (Some x) ≡ Some None = h 0 (omega arith) in cc

pub held-some : (table : List (Option ℕ)) (s k : ℕ) → slice_get table s ≡ Some (Some k) → 0 < held_count table
held-some [] s k e = cc
held-some (None ∷ t) zero k e = let same : None ≡ Some k = cc in cc
held-some (Some x ∷ t) zero k e = omega arith
held-some (None ∷ t) (suc s) k e = held-some t s k e
held-some (Some x ∷ t) (suc s) k e = omega arith
