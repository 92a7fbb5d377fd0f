-- Which calls are statements, by what is before and after each on its line.
use Rattle.std.specs.Prelude.{◌≡◌, ◌⊎◌, ◌↔◌, ℕ, true, List, [], ◌∷◌, ◌++◌}
use Rattle.std.specs.List.{list_all}
use Rattle.m4quote.specs.ItemValue.{Span, ItemValue, call}
use Rattle.m4quote.specs.Spelling.{IsSpelling}
use Rattle.ac_statement.specs.declared.placement.LineStart.{LineStart}
use Rattle.ac_statement.specs.Stand.{is_space, no_line_start, line_start_of, is_statement}
use Rattle.ac_tree.specs.declared.declarations.Declarations as declarations
use Rattle.ac_tree.specs.Script.{Script}
use Rattle.ac_macros.specs.ListKind.{ListKind}
use Rattle.acparse.specs.Statements.{AreStatements, IsBody}
use Rattle.ac_laws.specs.Signs.{Sign, call_sign, byte_sign, bytes, newline, signs_of}

-- A `;`, which separates statements. (POSIX, "Lists")
abbrev pub semicolon : ℕ
semicolon = 59

-- A `#`, which begins a comment. (POSIX, "Token Recognition")
abbrev pub number_sign : ℕ
number_sign = 35

-- Spaces and tabs alone. (own)
abbrev pub AreSpaces : List ℕ → Type 0
AreSpaces text = list_all is_space text ≡ true

-- A statement may follow a newline, a `;` or a call. (own; a shell separates commands in the same way)
abbrev pub MayPrecede : Sign → Type 0
MayPrecede (call_sign at) = Unit {0}
MayPrecede (byte_sign b) = (b ≡ newline) ⊎ (b ≡ semicolon)

-- A newline, a `;`, a comment or a call may follow a statement. (own; a shell does the same)
abbrev pub MayFollow : Sign → Type 0
MayFollow (call_sign at) = Unit {0}
MayFollow (byte_sign b) = (b ≡ newline) ⊎ ((b ≡ semicolon) ⊎ (b ≡ number_sign))

-- Before a call there are only spaces and tabs, or those after a sign that may precede it. (own)
pub data IsClearBefore : List Sign → Type 0 where
  from_start : (spaces : List ℕ) → AreSpaces spaces → IsClearBefore (bytes spaces)
  from_sign : (front : List Sign) (sign : Sign) (spaces : List ℕ)
      → MayPrecede sign → AreSpaces spaces → IsClearBefore (front ++ sign ∷ bytes spaces)

-- After a call there are only spaces and tabs, or those before a sign that may follow it. (own)
pub data IsClearAfter : List Sign → Type 0 where
  to_end : (spaces : List ℕ) → AreSpaces spaces → IsClearAfter (bytes spaces)
  to_sign : (spaces : List ℕ) (sign : Sign) (rest : List Sign)
      → AreSpaces spaces → MayFollow sign → IsClearAfter (bytes spaces ++ sign ∷ rest)

-- The call at this offset is apart from what is before and after it. (own)
pub record IsApart (signs : List Sign) (at : ℕ) : Type 0 where
  pub before : List Sign
  pub after : List Sign
  pub parts : signs ≡ before ++ call_sign at ∷ after
  pub clear_before : IsClearBefore before
  pub clear_after : IsClearAfter after

-- What the last of the items is to a call after them. (own)
abbrev pub line_start_after : LineStart → List ItemValue → LineStart
line_start_after line_start [] = line_start
line_start_after line_start (item ∷ items) = line_start_after (line_start_of item) items

-- A call of a text is a statement exactly if it is apart. (own)
abbrev pub StatementsAreApart : Type 0
StatementsAreApart = (base : ℕ) (text : List ℕ) (before after : List ItemValue)
    (name : List ℕ) (args : List Span) (at : ℕ)
    → (spelling : IsSpelling base text (before ++ call name args at ∷ after))
    → (is_statement (line_start_after no_line_start before) name args at after ≡ true) ↔ IsApart (signs_of spelling.spells) at

-- Each call of a list that is read is apart, in the file's own list and in each statement argument.
-- (own)
abbrev pub ReadAreApart : Type 0
ReadAreApart = (list_kind : ListKind) (room : ℕ) (c : declarations.Declarations)
    (base : ℕ) (text : List ℕ) (before after : List ItemValue)
    (name : List ℕ) (args : List Span) (at : ℕ) (s : Script)
    → (spelling : IsSpelling base text (before ++ call name args at ∷ after))
    → AreStatements list_kind (IsBody room) c no_line_start (before ++ call name args at ∷ after) s
    → IsApart (signs_of spelling.spells) at
