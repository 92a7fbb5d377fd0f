-- Where m4 begins a name after digits.
use Rattle.std.proofs.Common.{◌≡◌, subst, ℕ, ◌-◌, ◌<◌, ◌≤◌, ◌⊎◌, inl, inr, List, true, false, arith}
use Rattle.std.specs.Prelude.{slice_index}
use Rattle.std.specs.Char.{is_ascii_digit}
use Rattle.port_definitions.specs.Defined.{BeginsName, BeginsWord, is_of_name}

-- From the first offset up to the second one there are digits alone.
abbrev pub AreDigits : List ℕ → ℕ → ℕ → Type 0
AreDigits text start at = (i : ℕ) → start ≤ i → i < at → is_ascii_digit (slice_index text i) ≡ true

-- A digit may be in a name.
digit_of_name : (b : ℕ) → is_ascii_digit b ≡ true → is_of_name b ≡ false → ⊥
digit_of_name b is not = grind arith

-- Digits don't go on before a place that has none before it.
not_before : (text : List ℕ) (front start : ℕ) → front < start → (front ≤ start - 1 → start - 1 < start → is_ascii_digit (slice_index text (start - 1)) ≡ true)
    → (start ≡ 0) ⊎ (is_ascii_digit (slice_index text (start - 1)) ≡ false) → ⊥
not_before text front start less digit (inl none) = omega (arith, less, none)
not_before text front start less digit (inr other) = absurd (cc (digit (omega (arith, less)) (omega (arith, less)), other))

-- No name begins among digits.
not_after : (text : List ℕ) (front start : ℕ) → start < front → (start ≤ front - 1 → front - 1 < front → is_ascii_digit (slice_index text (front - 1)) ≡ true) → BeginsName text front → ⊥
not_after text front start less digit (inl none) = omega (arith, less, none)
not_after text front start less digit (inr other) = digit_of_name (slice_index text (front - 1)) (digit (omega (arith, less)) (omega (arith, less))) other

-- A name begins after digits that no name goes on before.
pub begins : (text : List ℕ) (start at : ℕ) → start ≤ at → AreDigits text start at → BeginsName text start → BeginsWord text at
begins text start at order digits first = record { front = start; order = order; digits = digits; begins = first }

-- No name begins after digits that one goes on before.
pub goes_on : (text : List ℕ) (start at : ℕ) → start ≤ at → AreDigits text start at → (start ≡ 0) ⊎ (is_ascii_digit (slice_index text (start - 1)) ≡ false) → (BeginsName text start → ⊥) → BeginsWord text at → ⊥
goes_on text start at order digits first not w =
    let before : w.front < start → ⊥ = λ less. not_before text w.front start less (λ from to. w.digits (start - 1) from (omega (arith, to, order))) first in
    let after : start < w.front → ⊥ = λ less. not_after text w.front start less (λ from to. digits (w.front - 1) from (omega (arith, to, w.order))) w.begins in
    let same : w.front ≡ start = omega (arith, before, after) in
    not (subst (BeginsName text) same w.begins)
