-- The texts that a pattern matches. (POSIX shell, 2.14)
use Rattle.std.specs.Prelude.{ℕ, List, [], ◌∷◌, ◌++◌}
use Rattle.shellword.specs.declared.pattern.Piece.{Piece}
use Rattle.shellword.specs.declared.pattern.Piece.TheVariants.{AnyBytes, OneByte, Byte}
-- The same relation as a function, also under this file's name.
pub use Rattle.shellword.specs.Matcher.{matches_any}

-- The text splits into parts, one for each piece of the pattern: any bytes for `*`, one byte for `?`, and the byte
-- itself for any other piece. (POSIX shell, 2.14)
pub data Matches : List Piece → List ℕ → Type 0 where
  nothing : Matches [] []
  any_bytes : {pieces : List Piece} {rest : List ℕ} (front : List ℕ) → Matches pieces rest → Matches (AnyBytes ∷ pieces) (front ++ rest)
  one_byte : {pieces : List Piece} {rest : List ℕ} (b : ℕ) → Matches pieces rest → Matches (OneByte ∷ pieces) (b ∷ rest)
  byte : {pieces : List Piece} {rest : List ℕ} (b : ℕ) → Matches pieces rest → Matches (Byte b ∷ pieces) (b ∷ rest)

-- The text matches one of the patterns. (POSIX shell, 2.9.4.3)
pub data MatchesAny : List (List Piece) → List ℕ → Type 0 where
  this : {pattern : List Piece} {others : List (List Piece)} {text : List ℕ} → Matches pattern text → MatchesAny (pattern ∷ others) text
  another : {pattern : List Piece} {others : List (List Piece)} {text : List ℕ} → MatchesAny others text → MatchesAny (pattern ∷ others) text
