-- Two names differ by at least as many edits as their lengths do.
use Rattle.std.proofs.Common.{◌≡◌, ℕ, zero, suc, ◌+◌, ◌-◌, ◌≤◌, Bool, true, false, List, [], ◌∷◌, length, Option, Some, None, refl, arith}
use Rattle.std.specs.Prelude.{nat_eq, nat_lt, if◌then◌else◌}
use Rattle.std.proofs.lemmas.Bool.{ltb-true}
use Rattle.strsim.specs.Edits.{cost_at, next_row, rows}
use Rattle.near_names.specs.Near.{edits, closer}

-- each place of a row is at least as far from its start as it is from the row's number
abbrev IsFar : ℕ → (ℕ → ℕ) → Type 0
IsFar n row = (j : ℕ) → (n ≤ j + row j) × (j ≤ n + row j)

far_next : (c before : ℕ → ℕ) (n : ℕ) → IsFar n before → IsFar (suc n) (next_row c before (suc n))
unfolding next_row
far_next c before n far zero = (omega arith, omega arith)
far_next c before n far (suc j) =
    let h = far_next c before n far j in
    let a = far j in
    let b = far (suc j) in
    (omega (arith, h.0, a.0, b.0), omega (arith, h.1, a.1, b.1))

far_rows : (xs ys : List ℕ) (n : ℕ) (before : ℕ → ℕ) → IsFar n before → IsFar (n + length xs) (rows nat_eq xs ys n before)
unfolding rows
far_rows [] ys n before far j = let a = far j in (omega (arith, a.0), omega (arith, a.1))
far_rows (x ∷ xs) ys n before far j =
    let h = far_rows xs ys (suc n) (next_row (cost_at nat_eq x ys) before (suc n)) (far_next (cost_at nat_eq x ys) before n far) j in
    (omega (arith, h.0), omega (arith, h.1))

far_apart : (name other : List ℕ) → (length name ≤ length other + edits name other) × (length other ≤ length name + edits name other)
far_apart name other = let h = far_rows name other 0 (λ j. j) (λ j. (omega arith, omega arith)) (length other) in (omega (arith, h.0), omega (arith, h.1))

not_closer : (name other : List ℕ) (room : ℕ) (t : Bool) → nat_lt (edits name other) room ≡ t → room ≤ (length name - length other) + (length other - length name)
    → ◌≡◌ {A = Option ℕ} (if t then Some (edits name other) else None) None
not_closer name other room false e le = refl
not_closer name other room true e le = let h = far_apart name other in let less = ltb-true (edits name other) room e in absurd (omega (arith, h.0, h.1, less, le))

-- a name whose length differs by as much as the number is not closer
pub far_off : (name other : List ℕ) (room : ℕ) → room ≤ (length name - length other) + (length other - length name) → closer name other room ≡ None
far_off name other room le = not_closer name other room (nat_lt (edits name other) room) refl le
