-- The test that a text is, as functions on lists. All are own.
use Rattle.std.specs.Prelude.{ℕ, false, List, [], ◌∷◌, ◌++◌, Option, Some, None, Result, Ok, Err, if◌then◌else◌}
use Rattle.std.specs.List.{list_all}
use Rattle.shellword.specs.declared.fault.ShellFault.{ShellFault}
use Rattle.shellword.specs.declared.fault.ShellFault.TheVariants.{BadTest}
use Rattle.shellword.specs.declared.part.Part.{Part}
use Rattle.shellword.specs.declared.element.Element.{Element}
use Rattle.shellword.specs.declared.token.Joint.{Joint}
use Rattle.shellword.specs.declared.token.Token.{Token}
use Rattle.shellword.specs.declared.token.Token.TheVariants.{Word, Join, Bar, Newline}
use Rattle.shellword.specs.Element.{element_of}
use Rattle.fallible.specs.Reading.{◌>>=◌}
use Rattle.shellword.specs.Cut.{tokens_of}
use Rattle.shellword.specs.Tokens.{is_newline}
use Rattle.shellword.specs.Truth.{Joined, single, joined}

-- The element, or the error of a test at offset `at`.
abbrev pub element_or : ℕ → Option Element → Result Element ShellFault
element_or at None = Err (BadTest at)
element_or at (Some e) = Ok e

-- The test before a joint, if any, joined with an element.
abbrev pub with_element : Option (Joined × Joint) → Element → Joined
with_element None e = single e
with_element (Some before) e = joined before.0 before.1 e

-- The test up to the end of an element of these words, which begins at offset `at`.
abbrev pub ended : Option (Joined × Joint) → List (List Part) → ℕ → Result Joined ShellFault
ended before words at = element_or at (element_of words) >>= λ e. Ok (with_element before e)

-- The test that tokens form after the words of an element that begins at offset `at`. A test's tokens contain no lone
-- bar, which is a law.
unfoldable pub joining : Option (Joined × Joint) → List (List Part) → ℕ → List Token → Result Joined ShellFault
joining before words at [] = ended before words at
joining before words at (Word w ∷ ts) = joining before (words ++ w ∷ []) at ts
joining before words at (Join joint after ∷ ts) = ended before words at >>= λ test. joining (Some (test, joint)) [] after ts
joining before words at (Bar after ∷ ts) = Err (BadTest at)
joining before [] at (Newline ∷ ts) = joining before [] at ts
joining before (w ∷ ws) at (Newline ∷ ts) = if list_all is_newline ts then ended before (w ∷ ws) at else Err (BadTest at)

-- The test that a text is, or its error.
unfoldable pub test_of : List ℕ → Result Joined ShellFault
test_of text = tokens_of false 0 0 text >>= λ tokens. joining None [] 0 tokens
