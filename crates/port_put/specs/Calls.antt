-- The call of a macro that is put in the place of a statement of a shell. All of this is own.
use Rattle.std.specs.Prelude.{◌≡◌, ℕ, ◌+◌, List, [], ◌∷◌, ◌++◌, map, slice_range, codes}
use Rattle.std.specs.List.{flat_map}
use Rattle.m4quote.specs.ItemValue.{Span, ItemValue, call}
use Rattle.m4quote.specs.Spelling.{IsSpelling}
use Rattle.lint_errors.specs.Errors.{IsAccepted}

-- A part in brackets.
abbrev pub quoted : List ℕ → List ℕ
quoted part = 91 ∷ (part ++ 93 ∷ [])

-- A further argument.
abbrev pub further : List ℕ → List ℕ
further part = codes ", " ++ quoted part

-- The arguments of a call, each in brackets.
abbrev pub arguments : List (List ℕ) → List ℕ
arguments [] = []
arguments (part ∷ parts) = quoted part ++ flat_map further parts

-- The call of a macro with these arguments.
unfoldable pub call_text : List ℕ → List (List ℕ) → List ℕ
call_text name parts = (name ++ codes "(") ++ (arguments parts ++ codes ")")

-- The text of an argument.
abbrev pub text_of : Span → List ℕ
text_of s = s.text

-- The item is a call of this macro, and these are the texts of its arguments.
pub record IsCallItem (item : ItemValue) (name : List ℕ) (args : List (List ℕ)) : Type 0 where
  pub spans : List Span
  pub at : ℕ
  pub is : item ≡ call name spans at
  pub are : map text_of spans ≡ args

-- The items are one such call.
pub record AreCall (items : List ItemValue) (name : List ℕ) (args : List (List ℕ)) : Type 0 where
  pub item : ItemValue
  pub one : items ≡ item ∷ []
  pub is : IsCallItem item name args

-- The text, read alone, is one call of this macro, and these are the texts of its arguments.
pub record IsOneCall (text name : List ℕ) (args : List (List ℕ)) : Type 0 where
  pub items : List ItemValue
  pub reads : IsSpelling 0 text items
  pub are : AreCall items name args

-- A source with this statement alone, between AC_INIT and AC_OUTPUT.
unfoldable pub source_with : List ℕ → List ℕ
source_with text = (codes "AC_INIT([a],[1])" ++ 10 ∷ []) ++ (text ++ 10 ∷ codes "AC_OUTPUT")

-- The call of the macro with these arguments, read alone, is that call, and acrun accepts it: so each argument is of the profile.
pub record IsCallWith (name : List ℕ) (parts : List (List ℕ)) : Type 0 where
  pub one_call : IsOneCall (call_text name parts) name (map quoted parts)
  pub accepted : IsAccepted (source_with (call_text name parts))

-- A backslash is before a closing bracket at some place of the text.
abbrev pub HasEscapedEnd : List ℕ → Type 0
HasEscapedEnd text = (at : ℕ) × (slice_range text at (at + 2) ≡ 92 ∷ 93 ∷ [])

-- This text may be put for a statement with these parts: it is the call of the macro with them. None of them ends in a backslash, which
-- in the statement may be before a blank, and so be a part of the word.
pub record IsPut (name : List ℕ) (parts : List (List ℕ)) (put : List ℕ) : Type 0 where
  pub text : put ≡ call_text name parts
  pub call : IsCallWith name parts
  pub plain_ends : HasEscapedEnd put → ⊥
