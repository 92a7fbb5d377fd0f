-- The offset at which a word or a here text is rejected: correct parts come first, and then a byte that begins no part.
-- (own)
use Rattle.std.specs.Prelude.{◌≡◌, ℕ, Bool, true, false, List, [], ◌∷◌}
use Rattle.std.specs.List.{list_all}
use Rattle.shellword.specs.declared.fault.ShellFault.{ShellFault}
use Rattle.shellword.specs.declared.fault.ShellFault.TheVariants.{BadWord, OutOfMemory}
use Rattle.shellword.specs.declared.part.Part.{Part}
use Rattle.shellword.specs.Text.{single_quote, double_quote, dollar, backquote, has_no, stands_alone, is_blank, word_ends, is_parted}
use Rattle.shellword.specs.Word.{IsVariable, AreDoubleParts, IsWordPart, AreWordParts, IsHerePart, BeginsAt}

-- A backquote, or a `$` that is neither an ordinary byte nor the beginning of a variable. (own)
pub data BeginsRefused : List ℕ → Type 0 where
  command : {rest : List ℕ} → BeginsRefused (backquote ∷ rest)
  expansion : {rest : List ℕ} → stands_alone rest ≡ false → ((name after : List ℕ) → IsVariable (dollar ∷ rest) name after → ⊥) → BeginsRefused (dollar ∷ rest)

-- After any correct parts, a word is rejected before this rest of the text. The rest begins with such a byte, which may
-- be in double quotes, or the text ends in quotes. (own)
pub data WordBreaks : List ℕ → List ℕ → Type 0 where
  refused : {text : List ℕ} → BeginsRefused text → WordBreaks text text
  single_open : {inside : List ℕ} → has_no single_quote inside ≡ true → WordBreaks (single_quote ∷ inside) []
  double_open : {text : List ℕ} {parts : List Part} → AreDoubleParts text parts [] → WordBreaks (double_quote ∷ text) []
  in_double : {text rest : List ℕ} {parts : List Part} → AreDoubleParts text parts rest → BeginsRefused rest → WordBreaks (double_quote ∷ text) rest
  later : {text after rest : List ℕ} {first : List Part} → IsWordPart text first after → WordBreaks after rest → WordBreaks text rest

-- The text is rejected at this offset, or a word ends there and the text after it isn't one that may follow. (own)
pub data IsRejected (may_follow : List ℕ → Bool) : List ℕ → ℕ → Type 0 where
  breaks : {text rest : List ℕ} {at : ℕ} → WordBreaks text rest → BeginsAt at rest text → IsRejected may_follow text at
  goes_on : {text rest : List ℕ} {parts : List Part} {at : ℕ} → AreWordParts text parts rest → word_ends rest ≡ true → may_follow rest ≡ false → BeginsAt at rest text
      → IsRejected may_follow text at

-- The text isn't a word: it is rejected at this offset, or the word ends there and something other than blanks follows.
-- (own)
abbrev pub IsBadWord : List ℕ → ℕ → Type 0
IsBadWord = IsRejected (list_all is_blank)

-- Bare text has no word at its front: it is rejected at this offset, or the word ends there before one of & | < > ( ).
-- (own)
abbrev pub IsBadFront : List ℕ → ℕ → Type 0
IsBadFront = IsRejected is_parted

-- A here text is rejected before this rest of the text. (own)
pub data HereBreaks : List ℕ → List ℕ → Type 0 where
  refused : {text : List ℕ} → BeginsRefused text → HereBreaks text text
  later : {text after rest : List ℕ} {first : List Part} → IsHerePart text first after → HereBreaks after rest → HereBreaks text rest

-- The text isn't a here text, because of the byte at this offset. (own)
pub record IsBadHere (text : List ℕ) (at : ℕ) : Type 0 where
  pub rest : List ℕ
  pub breaks : HereBreaks text rest
  pub place : BeginsAt at rest text

-- An error with an offset that satisfies `Bad`, or out of memory. (own)
abbrev pub IsRefusal : (ℕ → Type 0) → ShellFault → Type 0
IsRefusal Bad (BadWord at) = Bad at
IsRefusal Bad OutOfMemory = Unit {0}
IsRefusal Bad f = ⊥
