-- A statement of a shell that a condition guards, between two offsets of a text, and its parts. (POSIX shell, 2.9.3 "AND Lists" and
-- "OR Lists")
use Rattle.std.specs.Prelude.{◌≡◌, ◌⊎◌, ℕ, ◌+◌, ◌-◌, ◌<◌, ◌≤◌, ◌==◌, ◌||◌, Bool, true, false, List, [], ◌∷◌, length, slice_range, slice_index, codes, Some}
use Rattle.std.specs.List.{list_any}
use Rattle.std.specs.Char.{is_ascii_alphabetic}
use Rattle.ac_macros.specs.Table.{row_named}
use Rattle.ac_macros.specs.declared.macros.ActMacro.{ActMacro}
use Rattle.ac_macros.specs.declared.macros.ActMacro.TheVariants.{Define, DefineUnquoted, MsgError, Message}
use Rattle.ac_macros.specs.declared.macros.Macro.TheVariants.{Plain}
use Rattle.ac_macros.specs.declared.macros.Named.{Named}
use Rattle.ac_macros.specs.declared.macros.Named.TheVariants.{Statement}
use Rattle.ac_macros.specs.declared.macros.PlainMacro.TheVariants.{Acts}
use Rattle.ac_macros.specs.declared.table.Row.{Row}
use Rattle.m4quote.specs.ItemValue.{Span, ItemValue, call}
use Rattle.m4quote.specs.Spelling.{IsSpelling}
use Rattle.port_parts.specs.Parts.{IsNotEscaped, IsPlainLine}
use Rattle.port_parts.specs.Places.{is_blank_or_return, AreBlank, AreSpaces, IsWord, BeginsStatement, EndsStatement}

-- ---- the status of a command

-- A byte with which an option may begin, or what may be before one: `-`, a blank, or a backslash. (own)
abbrev pub may_begin_option : ℕ → Bool
may_begin_option b = b == 45 || b == 92 || is_blank_or_return b

-- At this offset is a blank, and an option may follow it. (own)
abbrev pub IsBeforeOption : List ℕ → ℕ → Type 0
IsBeforeOption text at = (is_blank_or_return (slice_index text at) ≡ true) × (may_begin_option (slice_index text (at + 1)) ≡ true)

-- A letter or `_`. A digit is none: `$1set` is the word `set` if the first parameter is empty. (own)
abbrev pub may_begin_name : ℕ → Bool
may_begin_name b = is_ascii_alphabetic b || b == 95

-- No such byte is right before this offset. (own)
abbrev pub BeginsName : List ℕ → ℕ → Type 0
BeginsName text at = (at ≡ 0) ⊎ (may_begin_name (slice_index text (at - 1)) ≡ false)

-- At this offset is `set`, and an option may follow it. With a letter or `_` before it, it is the end of another word. (POSIX shell, 2.14 "set")
abbrev pub IsSetAt : List ℕ → ℕ → Type 0
IsSetAt text at = IsWord text at (codes "set") (at + 3) × BeginsName text at × IsBeforeOption text (at + 3)

-- At this offset is `$?`, the status of a command, or a shell may be asked to end at one. (POSIX shell, 2.5.2 "Special Parameters")
unfoldable pub IsStatusAt : List ℕ → ℕ → Type 0
IsStatusAt text at = IsWord text at (codes "$?") (at + 2) ⊎ IsSetAt text at

-- The text has this at some place.
abbrev pub ReadsStatus : List ℕ → Type 0
ReadsStatus text = (at : ℕ) × (at < length text) × IsStatusAt text at

-- ---- the statement

-- A byte that ends a command, or joins it to the next: `;`, `&` or `|`. (POSIX shell, 2.9)
abbrev pub is_separator : ℕ → Bool
is_separator b = b == 59 || b == 38 || b == 124

-- The macro defines something, or prints a message.
abbrev pub is_brief : ActMacro → Bool
is_brief Define = true
is_brief DefineUnquoted = true
is_brief MsgError = true
is_brief (Message m) = true
is_brief m = false

-- A call of the macro is one command of a shell.
abbrev pub is_one : Named → Bool
is_one (Statement (Plain (Acts m))) = is_brief m
is_one m = false

-- The name is that of such a macro.
pub record NamesOne (name : List ℕ) : Type 0 where
  pub row : Row
  pub is : row_named name ≡ Some row
  pub one : is_one row.named ≡ true

-- The item is a call of such a macro, at the start of its text.
pub record IsCommandItem (item : ItemValue) : Type 0 where
  pub name : List ℕ
  pub args : List Span
  pub is : item ≡ call name args 0
  pub macro : NamesOne name

-- The items are one such call. To a shell its text is one command. (own)
pub record AreOneCommand (items : List ItemValue) : Type 0 where
  pub item : ItemValue
  pub one : items ≡ item ∷ []
  pub is : IsCommandItem item

-- The text is one command: words on one line, or one call of such a macro.
pub data IsOneCommand (statement : List ℕ) : Type 0 where
  words : IsPlainLine statement → list_any is_separator statement ≡ false → IsOneCommand statement
  called : (items : List ItemValue) → IsSpelling 0 statement items → AreOneCommand items → IsOneCommand statement

-- ---- the whole

-- Spaces are between the last two of these offsets, and no backslash is before them. (own)
pub record IsPlaceBefore (text : List ℕ) (start to end : ℕ) : Type 0 where
  pub order : (start ≤ to) × (to ≤ end)
  pub within : end ≤ length text
  pub not_escaped : IsNotEscaped text to
  pub after : AreSpaces text to end

-- Blanks are between the first two of these offsets. (own)
pub record IsPlaceAfter (text : List ℕ) (start from end : ℕ) : Type 0 where
  pub order : (start ≤ from) × (from ≤ end)
  pub within : end ≤ length text
  pub before : AreBlank text start from

-- Between two offsets are this condition and spaces.
pub record IsConditionBefore (text : List ℕ) (start end : ℕ) (condition : List ℕ) : Type 0 where
  pub to : ℕ
  pub place : IsPlaceBefore text start to end
  pub is : condition ≡ slice_range text start to
  pub plain : IsPlainLine condition

-- Between two offsets are blanks and this statement, which is one command.
pub record IsStatementAfter (text : List ℕ) (start end : ℕ) (statement : List ℕ) : Type 0 where
  pub from : ℕ
  pub place : IsPlaceAfter text start from end
  pub is : statement ≡ slice_range text from end
  pub one : IsOneCommand statement

-- Between two offsets are this condition, this joint, and this statement.
pub record IsJoined (text : List ℕ) (start : ℕ) (joint : List ℕ) (end : ℕ) (condition statement : List ℕ) : Type 0 where
  pub at : ℕ
  pub after : ℕ
  pub tests : IsConditionBefore text start at condition
  pub joins : IsWord text at joint after
  pub does : IsStatementAfter text after end statement

-- These are the parts as AS_IF takes them: after `||` the statement is done if the condition is false.
pub data AreGuardParts (text : List ℕ) (start end : ℕ) : List (List ℕ) → Type 0 where
  and : {condition statement : List ℕ} → IsJoined text start (codes "&&") end condition statement → AreGuardParts text start end (condition ∷ statement ∷ [])
  or : {condition statement : List ℕ} → IsJoined text start (codes "||") end condition statement → AreGuardParts text start end (condition ∷ [] ∷ statement ∷ [])

-- Between these offsets is such a list, as a statement of its own.
pub record IsGuarded (text : List ℕ) (start end : ℕ) (parts : List (List ℕ)) : Type 0 where
  pub begins : BeginsStatement text start
  pub ends : EndsStatement text end
  pub are : AreGuardParts text start end parts
