-- What a window on a text says about each `@` in it.
use Rattle.std.specs.Prelude.{◌≡◌, ℕ, ◌+◌, ◌<◌, ◌≤◌, List, length, slice_index}
use Rattle.std.specs.Int.{bit_at}
use Rattle.template.specs.Fill.{at_sign}

-- No `@` is at an offset from i up to j. (own)
abbrev pub IsClear : List ℕ → ℕ → ℕ → Type 0
IsClear text i j = (k : ℕ) → i ≤ k → k < j → ¬ (slice_index text k ≡ at_sign)

-- A window on the text from `base` to `end`: no `@` is between `from` and `base`, and bit k of `marks` is set if and
-- only if an `@` is at `base + k` in the window, at or after `from`. (own)
pub record IsWindow (text : List ℕ) (base end marks from : ℕ) : Type 0 where
  pub reached : from ≤ end
  pub ordered : base ≤ end
  pub high : end ≤ length text
  pub short : end ≤ base + 64
  pub clear : IsClear text from base
  pub marked : (k : ℕ) → k < 64 → from ≤ base + k → base + k < end → slice_index text (base + k) ≡ at_sign → bit_at marks k ≡ 1
  pub told : (k : ℕ) → k < 64 → bit_at marks k ≡ 1 → (from ≤ base + k) × (base + k < end) × (slice_index text (base + k) ≡ at_sign)
