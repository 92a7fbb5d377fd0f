-- The parts of a word and of a here text (POSIX shell, 2.2 "Quoting" and 2.6.2 "Parameter Expansion"). Each case gives
-- the text, the parts that its front produces, and the rest of the text.
use Rattle.std.specs.Prelude.{◌≡◌, ℕ, ◌+◌, true, false, List, [], ◌∷◌, ◌++◌, length, map, IsTrue}
use Rattle.std.specs.List.{list_all}
use Rattle.deftable.specs.ShellName.{continues_name, IsShellName}
use Rattle.shellword.specs.declared.part.Part.{Part}
use Rattle.shellword.specs.declared.part.Part.TheVariants.{Plain, Quoted, Variable}
use Rattle.shellword.specs.Text.{single_quote, double_quote, backslash, dollar, newline, open_brace, close_brace, expands_bare, expands_in_double, expands_here, escapes_in_double, escapes_here, begins, has_no, stands_alone, is_blank, ends_word, is_parted}

-- `$` and the longest name, or `${`, a name and `}`. (POSIX shell, 2.6.2)
pub data IsVariable : List ℕ → List ℕ → List ℕ → Type 0 where
  named : {name rest : List ℕ} → IsShellName name → begins continues_name rest ≡ false → IsVariable (dollar ∷ (name ++ rest)) name rest
  in_braces : {name rest : List ℕ} → IsShellName name → IsVariable (dollar ∷ open_brace ∷ (name ++ close_brace ∷ rest)) name rest

-- ---- words

-- A part in double quotes: a backslash and a byte that it quotes; a backslash before any other byte; a variable; a `$`
-- that is an ordinary byte; or any other byte. (POSIX shell, 2.2.3; that a backslash before a newline is kept is own)
pub data IsDoublePart : List ℕ → Part → List ℕ → Type 0 where
  escaped : {b : ℕ} {rest : List ℕ} → escapes_in_double b ≡ true → IsDoublePart (backslash ∷ b ∷ rest) (Quoted b) rest
  kept_backslash : {rest : List ℕ} → begins escapes_in_double rest ≡ false → IsDoublePart (backslash ∷ rest) (Quoted backslash) rest
  variable : {text name rest : List ℕ} → IsVariable text name rest → IsDoublePart text (Variable name) rest
  lone_dollar : {rest : List ℕ} → stands_alone rest ≡ true → IsDoublePart (dollar ∷ rest) (Quoted dollar) rest
  byte : {b : ℕ} {rest : List ℕ} → expands_in_double b ≡ false → IsDoublePart (b ∷ rest) (Quoted b) rest

-- A sequence of parts in double quotes. (POSIX shell, 2.2.3)
pub data AreDoubleParts : List ℕ → List Part → List ℕ → Type 0 where
  no_more : {rest : List ℕ} → AreDoubleParts rest [] rest
  more : {text after rest : List ℕ} {part : Part} {parts : List Part} → IsDoublePart text part after → AreDoubleParts after parts rest → AreDoubleParts text (part ∷ parts) rest

-- A part of a word, or parts in quotes: `'..'`, whose bytes are literal; `".."`; a backslash and the byte that it
-- quotes; a backslash at the end, which is an ordinary byte; a variable; a `$` that is an ordinary byte; or any other
-- byte that doesn't end a word. (POSIX shell, 2.2.1 to 2.2.3; the backslash at the end, and that one quotes a newline,
-- is own)
pub data IsWordPart : List ℕ → List Part → List ℕ → Type 0 where
  single_quoted : {rest : List ℕ} (inside : List ℕ) → has_no single_quote inside ≡ true → IsWordPart (single_quote ∷ (inside ++ single_quote ∷ rest)) (map Quoted inside) rest
  double_quoted : {text rest : List ℕ} {parts : List Part} → AreDoubleParts text parts (double_quote ∷ rest) → IsWordPart (double_quote ∷ text) parts rest
  escaped : {b : ℕ} {rest : List ℕ} → IsWordPart (backslash ∷ b ∷ rest) (Quoted b ∷ []) rest
  last_backslash : IsWordPart (backslash ∷ []) (Plain backslash ∷ []) []
  variable : {text name rest : List ℕ} → IsVariable text name rest → IsWordPart text (Variable name ∷ []) rest
  lone_dollar : {rest : List ℕ} → stands_alone rest ≡ true → IsWordPart (dollar ∷ rest) (Plain dollar ∷ []) rest
  byte : {b : ℕ} {rest : List ℕ} → expands_bare b ≡ false → ends_word b ≡ false → IsWordPart (b ∷ rest) (Plain b ∷ []) rest

-- A sequence of parts of a word. (POSIX shell, 2.2)
pub data AreWordParts : List ℕ → List Part → List ℕ → Type 0 where
  no_more : {rest : List ℕ} → AreWordParts rest [] rest
  more : {text after rest : List ℕ} {first parts : List Part} → IsWordPart text first after → AreWordParts after parts rest → AreWordParts text (first ++ parts) rest

-- The text is one word, followed by blanks. (own)
pub record IsWord (text : List ℕ) (parts : List Part) : Type 0 where
  pub rest : List ℕ
  pub word : AreWordParts text parts rest
  pub blanks : IsTrue (list_all is_blank rest)

-- The rest, which is a suffix of the text, begins at this offset. (own)
abbrev pub BeginsAt : ℕ → List ℕ → List ℕ → Type 0
BeginsAt at rest text = at + length rest ≡ length text

-- The first n bytes of bare text are one word, which may end there. (own)
pub record IsWordFront (text : List ℕ) (parts : List Part) (n : ℕ) : Type 0 where
  pub rest : List ℕ
  pub word : AreWordParts text parts rest
  pub place : BeginsAt n rest text
  pub parted : IsTrue (is_parted rest)

-- ---- here texts

-- A part of a here text: a backslash and a byte that it quotes; a backslash and a newline, which produce nothing; a
-- backslash before any other byte; a variable; a `$` that is an ordinary byte; or any other byte, even a quote. (POSIX
-- shell, 2.7.4)
pub data IsHerePart : List ℕ → List Part → List ℕ → Type 0 where
  escaped : {b : ℕ} {rest : List ℕ} → expands_here b ≡ true → IsHerePart (backslash ∷ b ∷ rest) (Quoted b ∷ []) rest
  joined_line : {rest : List ℕ} → IsHerePart (backslash ∷ newline ∷ rest) [] rest
  kept_backslash : {rest : List ℕ} → begins escapes_here rest ≡ false → IsHerePart (backslash ∷ rest) (Plain backslash ∷ []) rest
  variable : {text name rest : List ℕ} → IsVariable text name rest → IsHerePart text (Variable name ∷ []) rest
  lone_dollar : {rest : List ℕ} → stands_alone rest ≡ true → IsHerePart (dollar ∷ rest) (Plain dollar ∷ []) rest
  byte : {b : ℕ} {rest : List ℕ} → expands_here b ≡ false → IsHerePart (b ∷ rest) (Plain b ∷ []) rest

-- The whole text is a here text. (POSIX shell, 2.7.4)
pub data IsHere : List ℕ → List Part → Type 0 where
  no_more : IsHere [] []
  more : {text rest : List ℕ} {first parts : List Part} → IsHerePart text first rest → IsHere rest parts → IsHere text (first ++ parts)
