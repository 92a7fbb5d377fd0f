-- The state of a filling between one `@` of a template and the next.
use Rattle.std.specs.Prelude.{◌≡◌, ℕ, ◌+◌, ◌<◌, ◌≤◌, Bool, true, false, ◌==◌, List, [], ◌∷◌, ◌++◌, length, take, drop, slice_range, if◌then◌else◌}
use Rattle.std.specs.List.{AllByRecursion}
use Rattle.template.specs.Fill.{at_sign, filled}

-- No byte is `@`. (own)
abbrev pub HasNoAt : List ℕ → Type 0
HasNoAt s = AllByRecursion (λ b. (b == at_sign) ≡ false) s

-- The byte at this offset is `@`. (own)
abbrev pub HasAt : List ℕ → ℕ → Type 0
HasAt text at = drop at text ≡ at_sign ∷ drop (at + 1) text

-- The first `@` from the offset `from` on is at the offset `at`. (own)
pub record HasNextAt (text : List ℕ) (from at : ℕ) : Type 0 where
  pub low : from ≤ at
  pub high : at < length text
  pub clean : HasNoAt (slice_range text from at)
  pub there : HasAt text at

-- The offset up to which the text has been read: an open `@` at `last` has been read. (own)
abbrev pub read_to : ℕ → Bool → ℕ
read_to last opened = if opened then last + 1 else last

-- What may follow an open `@` and the text after it: nothing, or a text that begins with `@`. (own)
abbrev pub MayFollow : List ℕ → Type 0
MayFollow [] = Unit {0}
MayFollow (b ∷ bs) = b ≡ at_sign

-- A filling has come to the offset `last`, at which there may be an open `@`. The text up to there with any rest, filled, is what
-- is written, then the text from `start` to `last` unchanged, and then that rest filled. If an `@` is open, the rest is empty or
-- begins with `@`. (own)
pub record HasComeTo (es : List (List ℕ × List ℕ)) (text made : List ℕ) (start last : ℕ) (opened : Bool) : Type 0 where
  pub ordered : start ≤ last
  pub within : read_to last opened ≤ length text
  pub at_open : opened ≡ true → HasAt text last
  pub whole : (rest : List ℕ) → (opened ≡ true → MayFollow rest) → filled es (take last text ++ rest) ≡ (made ++ slice_range text start last) ++ filled es rest
