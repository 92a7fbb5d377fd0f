-- The test that a text is. (POSIX shell, 2.9.2 and 2.9.3, and POSIX, `test`)
use Rattle.std.specs.Prelude.{◌≡◌, ℕ, false, List, ◌∷◌, ◌++◌, length, ◌≤◌, map, Some, IsTrue}
use Rattle.std.specs.List.{list_all}
use Rattle.shellword.specs.declared.fault.ShellFault.{ShellFault}
use Rattle.shellword.specs.declared.fault.ShellFault.TheVariants.{BadWord, BadTest, BadPattern, OutOfMemory}
use Rattle.shellword.specs.declared.part.Part.{Part}
use Rattle.shellword.specs.declared.element.Element.{Element}
use Rattle.shellword.specs.declared.token.Joint.{Joint}
use Rattle.shellword.specs.declared.token.Token.{Token}
use Rattle.shellword.specs.declared.token.Token.TheVariants.{Word, Join, Newline}
use Rattle.shellword.specs.Element.{element_of}
use Rattle.shellword.specs.Tokens.{AreTokens, is_newline}
use Rattle.shellword.specs.Truth.{Joined, single, joined}
-- The same relation as a function, also under this file's name.
unfoldable pub use Rattle.shellword.specs.Joining.{test_of}

-- The tokens are newlines, followed by the words of one element. (that newlines may come first is own)
pub data AreElement : List Token → Element → Type 0 where
  next_line : {tokens : List Token} {e : Element} → AreElement tokens e → AreElement (Newline ∷ tokens) e
  command : {e : Element} (words : List (List Part)) → element_of words ≡ Some e → AreElement (map Word words) e

-- The tokens are an element, or a test, a joint and an element. (POSIX shell, 2.9.3)
pub data AreTest : List Token → Joined → Type 0 where
  first : {tokens : List Token} {e : Element} → AreElement tokens e → AreTest tokens (single e)
  more : {left right : List Token} {test : Joined} {joint : Joint} {e : Element} (after : ℕ) → AreTest left test → AreElement right e
      → AreTest (left ++ Join joint after ∷ right) (joined test joint e)

-- The text is a test, followed by newlines. (own)
pub record IsTest (text : List ℕ) (test : Joined) : Type 0 where
  pub tokens : List Token
  pub lines : List Token
  pub cut : AreTokens false 0 text (tokens ++ lines)
  pub joined : AreTest tokens test
  pub newlines : IsTrue (list_all is_newline lines)

-- The text can be split into tokens: no word of it is rejected. (own)
abbrev pub IsCut : List ℕ → Type 0
IsCut text = (tokens : List Token) × AreTokens false 0 text tokens

-- The error of a text that isn't a test, with an offset in the text or at its end: that of a word if one is rejected,
-- and otherwise that of the test. (own)
abbrev pub IsFaultOfTest : List ℕ → ShellFault → Type 0
IsFaultOfTest text (BadWord at) = (IsCut text → ⊥) × (at ≤ length text)
IsFaultOfTest text (BadTest at) = IsCut text × (at ≤ length text)
IsFaultOfTest text (BadPattern at) = ⊥
IsFaultOfTest text OutOfMemory = Unit {0}
