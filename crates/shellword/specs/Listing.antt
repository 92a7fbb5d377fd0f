-- The patterns that a text lists, as functions on lists. All are own.
use Rattle.std.specs.Prelude.{ℕ, true, List, [], ◌∷◌, Option, Some, None, Result, Ok, Err}
use Rattle.shellword.specs.declared.fault.ShellFault.{ShellFault}
use Rattle.shellword.specs.declared.fault.ShellFault.TheVariants.{BadWord, BadPattern}
use Rattle.shellword.specs.declared.part.Part.{Part}
use Rattle.shellword.specs.declared.pattern.Piece.{Piece}
use Rattle.shellword.specs.declared.token.Token.{Token}
use Rattle.shellword.specs.declared.token.Token.TheVariants.{Word, Bar}
use Rattle.fallible.specs.Reading.{◌>>=◌}
use Rattle.shellword.specs.Cut.{tokens_of}
use Rattle.shellword.specs.Pieces.{pieces_of}

-- The error of a word as that of a list of patterns.
abbrev pub in_pattern : ShellFault → ShellFault
in_pattern (BadWord at) = BadPattern at
in_pattern f = f

-- The pieces, or the error of a list of patterns at offset `at`.
abbrev pub pieces_or : ℕ → Option (List Piece) → Result (List Piece) ShellFault
pieces_or at None = Err (BadPattern at)
pieces_or at (Some pieces) = Ok pieces

-- The parts of a token that is a word.
abbrev pub word_in : Token → Option (List Part)
word_in (Word parts) = Some parts
word_in t = None

-- The offset after a token that is a bar.
abbrev pub after_bar : Token → Option ℕ
after_bar (Bar after) = Some after
after_bar t = None

-- The patterns that tokens list, if an alternative begins at offset `at`.
unfoldable pub alternatives : ℕ → List Token → Result (List (List Piece)) ShellFault
alternatives at [] = Err (BadPattern at)
alternatives at (Word parts ∷ []) = pieces_or at (pieces_of parts) >>= λ pieces. Ok (pieces ∷ [])
alternatives at (Word parts ∷ Bar after ∷ ts) = pieces_or at (pieces_of parts) >>= λ pieces. alternatives after ts >>= λ rest. Ok (pieces ∷ rest)
alternatives at (Word parts ∷ t ∷ ts) = pieces_or at (pieces_of parts) >>= λ pieces. Err (BadPattern at)
alternatives at (t ∷ ts) = Err (BadPattern at)

-- The tokens, or their error as that of a list of patterns.
abbrev pub or_in_pattern : Result (List Token) ShellFault → Result (List Token) ShellFault
or_in_pattern (Ok tokens) = Ok tokens
or_in_pattern (Err f) = Err (in_pattern f)

-- The patterns that a text lists, or its error.
unfoldable pub patterns_of : List ℕ → Result (List (List Piece)) ShellFault
patterns_of text = or_in_pattern (tokens_of true 0 0 text) >>= λ tokens. alternatives 0 tokens
