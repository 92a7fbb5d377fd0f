-- How a text is split into words and their separators. (POSIX shell, 2.3)
use Rattle.std.specs.Prelude.{◌≡◌, ℕ, ◌+◌, Bool, true, false, List, [], ◌∷◌, drop}
use Rattle.shellword.specs.declared.part.Part.{Part}
use Rattle.shellword.specs.declared.token.Joint.TheVariants.{And, Or}
use Rattle.shellword.specs.declared.token.Token.{Token}
use Rattle.shellword.specs.declared.token.Token.TheVariants.{Word, Join, Bar, Newline}
use Rattle.shellword.specs.Text.{is_space, newline, ampersand, bar, ends_word, word_ends, begins_with}
use Rattle.shellword.specs.Word.{AreWordParts, BeginsAt}

-- A text at offset `at` begins with this token, of this length: a newline, `&&`, `||`, a lone bar if those are read, or
-- a word. No other byte that ends a word begins a token. (POSIX shell, 2.3 and 2.10.2; 2.9.4.3 for the bar in patterns)
pub data IsToken : Bool → ℕ → List ℕ → Token → ℕ → Type 0 where
  line_end : {lone_bars : Bool} {at : ℕ} {rest : List ℕ} → IsToken lone_bars at (newline ∷ rest) Newline 1
  both : {lone_bars : Bool} {at : ℕ} {rest : List ℕ} → IsToken lone_bars at (ampersand ∷ ampersand ∷ rest) (Join And (at + 2)) 2
  either : {lone_bars : Bool} {at : ℕ} {rest : List ℕ} → IsToken lone_bars at (bar ∷ bar ∷ rest) (Join Or (at + 2)) 2
  lone_bar : {at : ℕ} {rest : List ℕ} → begins_with bar rest ≡ false → IsToken true at (bar ∷ rest) (Bar (at + 1)) 1
  a_word : {lone_bars : Bool} {at b n : ℕ} {text rest : List ℕ} {parts : List Part} → ends_word b ≡ false → AreWordParts (b ∷ text) parts rest → word_ends rest ≡ true → BeginsAt n rest (b ∷ text)
      → IsToken lone_bars at (b ∷ text) (Word parts) n

-- A text at offset `at` is split into these tokens, with spaces and tabs between them. (POSIX shell, 2.3)
pub data AreTokens : Bool → ℕ → List ℕ → List Token → Type 0 where
  no_more : {lone_bars : Bool} {at : ℕ} → AreTokens lone_bars at [] []
  space : {lone_bars : Bool} {at b : ℕ} {rest : List ℕ} {tokens : List Token} → is_space b ≡ true → AreTokens lone_bars (at + 1) rest tokens
      → AreTokens lone_bars at (b ∷ rest) tokens
  next : {lone_bars : Bool} {at n : ℕ} {text : List ℕ} {t : Token} {tokens : List Token} → IsToken lone_bars at text t n
      → AreTokens lone_bars (at + n) (drop n text) tokens → AreTokens lone_bars at text (t ∷ tokens)

-- The token is a newline. (own)
abbrev pub is_newline : Token → Bool
is_newline Newline = true
is_newline t = false

-- The token is a lone bar. (own)
abbrev pub is_bar : Token → Bool
is_bar (Bar after) = true
is_bar t = false
