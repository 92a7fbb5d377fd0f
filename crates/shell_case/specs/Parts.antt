-- The groups of a pattern: its pieces between two stars. All are own.
use Rattle.std.specs.Prelude.{◌≡◌, ℕ, zero, suc, ◌-◌, ◌<◌, ◌≤◌, Bool, true, false, ◌&&◌, List, [], ◌∷◌, length, drop, nat_le, ◌==◌, Option, Some, None}
use Rattle.shellword.specs.declared.pattern.Piece.{Piece}
use Rattle.shellword.specs.declared.pattern.Piece.TheVariants.{AnyBytes, OneByte, Byte}

-- The piece matches one byte: it is `?` or a byte.
abbrev pub is_single : Piece → Bool
is_single AnyBytes = false
is_single OneByte = true
is_single (Byte b) = true

-- The piece is `?`.
abbrev pub is_one_byte : Piece → Bool
is_one_byte AnyBytes = false
is_one_byte OneByte = true
is_one_byte (Byte b) = false

-- The piece is a byte.
abbrev pub is_byte : Piece → Bool
is_byte AnyBytes = false
is_byte OneByte = false
is_byte (Byte b) = true

-- The byte that the piece matches, or 0 if it matches several.
abbrev pub byte_of : Piece → ℕ
byte_of AnyBytes = 0
byte_of OneByte = 0
byte_of (Byte b) = b

-- The number of pieces before the first star.
abbrev pub group_len : List Piece → ℕ
group_len [] = 0
group_len (AnyBytes ∷ pieces) = 0
group_len (OneByte ∷ pieces) = suc (group_len pieces)
group_len (Byte b ∷ pieces) = suc (group_len pieces)

-- The number of bytes before the first piece that isn't one.
abbrev pub byte_count : List Piece → ℕ
byte_count [] = 0
byte_count (AnyBytes ∷ pieces) = 0
byte_count (OneByte ∷ pieces) = 0
byte_count (Byte b ∷ pieces) = suc (byte_count pieces)

-- The piece is `?` or this byte.
abbrev pub takes : Piece → ℕ → Bool
takes AnyBytes b = false
takes OneByte b = true
takes (Byte c) b = b == c

-- The text begins with bytes that the pieces match, one each.
abbrev pub fits : List Piece → List ℕ → Bool
fits [] text = true
fits (p ∷ ps) [] = false
fits (p ∷ ps) (b ∷ bs) = takes p b && fits ps bs

-- The same, and the text ends there.
abbrev pub fits_whole : List Piece → List ℕ → Bool
fits_whole pieces text = (length text == length pieces) && fits pieces text

-- The text ends with such bytes.
abbrev pub fits_end : List Piece → List ℕ → Bool
fits_end pieces text = nat_le (length pieces) (length text) && fits pieces (drop (length text - length pieces) text)

-- The first offset of the text at which the pieces fit, if any.
abbrev pub IsFirstPlace : List Piece → List ℕ → Option ℕ → Type 0
IsFirstPlace pieces text None = (k : ℕ) → k ≤ length text → fits pieces (drop k text) ≡ false
IsFirstPlace pieces text (Some k) = (k ≤ length text) × (fits pieces (drop k text) ≡ true) × ((j : ℕ) → j < k → fits pieces (drop j text) ≡ false)

-- For each of the first `n` offsets of the text, whether the pieces fit there.
abbrev pub places : List Piece → ℕ → List ℕ → List Bool
places pieces zero text = []
places pieces (suc n) text = fits pieces text ∷ places pieces n (drop 1 text)

-- For each flag of an offset, whether the flag is set and the pieces fit there.
abbrev pub keep_places : List Piece → List Bool → List ℕ → List Bool
keep_places pieces [] text = []
keep_places pieces (f ∷ fs) text = (f && fits pieces text) ∷ keep_places pieces fs (drop 1 text)

-- The number of flags before the first that is set.
abbrev pub unset_count : List Bool → ℕ
unset_count [] = 0
unset_count (true ∷ fs) = 0
unset_count (false ∷ fs) = suc (unset_count fs)
