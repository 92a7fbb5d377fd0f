-- The list that a statement is in, and what may be in it.
use Rattle.std.specs.Prelude.{ℕ, Bool, true, false, List, Result, Ok}
use Rattle.ac_statement.specs.declared.fault.ParseFault.{ParseFault}
use Rattle.ac_statement.specs.declared.fault.ParseFault.TheVariants.{CacheBody}
use Rattle.ac_statement.specs.Reading.{wants}
use Rattle.ac_macros.specs.declared.macros.Macro.{Macro}
use Rattle.ac_macros.specs.declared.macros.Macro.TheVariants.{Choice, Question}
use Rattle.ac_macros.specs.declared.macros.QuestionMacro.TheVariants.{Tries}
use Rattle.ac_macros.specs.declared.list_kind.ListKind as code
use Rattle.ac_macros.specs.declared.list_kind.ListKind.TheVariants as code_list_kind

-- The file's own list of statements, another list, or the commands of AC_CACHE_CHECK: the name that they set, and the
-- offset of their argument. (own)
pub data ListKind : Type 0 where
  Top : ListKind
  Nested : ListKind
  Commands : (name : List ℕ) (at : ℕ) → ListKind

-- The pure value of a list's kind. (own)
abbrev pub list_kind_of : code.ListKind → ListKind
list_kind_of code_list_kind.Top = Top
list_kind_of code_list_kind.Nested = Nested
list_kind_of (code_list_kind.Commands name at) = Commands name.now at

-- The list is the file's own. (own)
abbrev pub is_top : ListKind → Bool
is_top Top = true
is_top Nested = false
is_top (Commands name at) = false

-- The list of a case in this list: in commands, it is one of the commands. (own)
abbrev pub of_case : ListKind → ListKind
of_case Top = Nested
of_case Nested = Nested
of_case (Commands name at) = Commands name at

-- Commands may call this macro: AS_IF, AS_CASE, or one that tries a program. (own)
abbrev pub is_command : Macro → Bool
is_command (Choice m) = true
is_command (Question (Tries kind)) = true
is_command _ = false

-- The list may hold a call of this macro. (own)
unfoldable pub may_hold : ListKind → Macro → Result (Unit {0}) ParseFault
may_hold Top m = Ok tt
may_hold Nested m = Ok tt
may_hold (Commands name at) m = wants (is_command m) (CacheBody at)
