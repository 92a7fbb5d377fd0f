-- The patterns that a text lists. (POSIX shell, 2.9.4.3 and 2.14)
use Rattle.std.specs.Prelude.{◌≡◌, ℕ, true, List, [], ◌∷◌, Some}
use Rattle.shellword.specs.declared.part.Part.{Part}
use Rattle.shellword.specs.declared.pattern.Piece.{Piece}
use Rattle.shellword.specs.declared.token.Token.{Token}
use Rattle.shellword.specs.declared.token.Token.TheVariants.{Word, Bar}
use Rattle.shellword.specs.Pieces.{pieces_of}
use Rattle.shellword.specs.Tokens.{AreTokens}
-- The same relation as a function, also under this file's name.
unfoldable pub use Rattle.shellword.specs.Listing.{patterns_of}

-- The tokens are alternatives separated by bars, one word each. (POSIX shell, 2.9.4.3)
pub data AreAlternatives : List Token → List (List Piece) → Type 0 where
  last : {parts : List Part} {pieces : List Piece} → pieces_of parts ≡ Some pieces → AreAlternatives (Word parts ∷ []) (pieces ∷ [])
  more : {parts : List Part} {pieces : List Piece} {tokens : List Token} {rest : List (List Piece)} (after : ℕ) → pieces_of parts ≡ Some pieces
      → AreAlternatives tokens rest → AreAlternatives (Word parts ∷ Bar after ∷ tokens) (pieces ∷ rest)

-- The text lists these patterns. (POSIX shell, 2.9.4.3; that no parenthesis and no newline is read is own)
pub record ArePatterns (text : List ℕ) (patterns : List (List Piece)) : Type 0 where
  pub tokens : List Token
  pub cut : AreTokens true 0 text tokens
  pub alternatives : AreAlternatives tokens patterns
