-- What the lines with an `echo`, an `exit`, an `unset` or an `export` become. The offsets are those of the text that is read. All of this is own.
use Rattle.std.specs.Prelude.{◌≡◌, ◌⊎◌, ℕ, ◌+◌, ◌<◌, ◌≤◌, ◌==◌, ◌||◌, nat_lt, ◌&&◌, Bool, true, false, List, [], ◌∷◌, ◌++◌, length, flat_map, slice_index, slice_range, codes, if◌then◌else◌}
use Rattle.std.specs.List.{list_all}
use Rattle.port_parts.specs.Places.{AreSpaces, IsWord}
use Rattle.port_parts.specs.Words.{is_of_name, IsVariable}
use Rattle.port_echo.specs.Echo.{IsMessage, Prints}
use Rattle.port_echo.specs.Commands.{IsCommandLine, IsBlankEcho, IsOneWord}
use Rattle.lint_errors.specs.Errors.{IsAccepted}
use Rattle.port_breaks.specs.Breaks.{IsBroken, IsMade, is_status}
use Rattle.port_edits.specs.Edits.{Change}
use Rattle.port_put.specs.Calls.{IsPut, source_with}
use Rattle.port_statements.specs.Statements.{MayBegin}

-- ---- a command that becomes a call

-- From this offset on, the command is `exit` with a digit that isn't 0.
pub record IsExit (command : List ℕ) (from : ℕ) (status : List ℕ) : Type 0 where
  pub is : slice_range command from (length command) ≡ codes "exit " ++ status
  pub one : length status ≡ 1
  pub digit : list_all is_status status ≡ true

-- The command begins with `echo` and a space, and a `;` with spaces around it is between these offsets.
pub record IsEchoThen (command : List ℕ) (to from : ℕ) : Type 0 where
  pub at : ℕ
  pub order : (5 ≤ to) × (to ≤ at) × (at < from)
  pub word : IsWord command 0 (codes "echo ") 5
  pub before : AreSpaces command to at
  pub is : slice_index command at ≡ 59
  pub after : AreSpaces command (at + 1) from

-- The command prints this message by `echo`, and then ends the run with this status.
pub record Fails (command message status : List ℕ) : Type 0 where
  pub to : ℕ
  pub from : ℕ
  pub front : IsEchoThen command to from
  pub prints : Prints (slice_range command 5 to) message
  pub can_be_shown : IsMessage message
  pub exits : IsExit command from status

-- A call that takes the place of a command: the name of the macro, its arguments, and in what it differs. `echo` prints what it is given, or
-- without words an empty line, and `exit` with a digit that isn't 0 ends the run with that status. A message before `exit` is that of the error.
pub data Speaks (command : List ℕ) : List ℕ → List (List ℕ) → List ℕ → Type 0 where
  blank : IsBlankEcho command → Speaks command (codes "AC_MSG_RESULT") ([] ∷ []) (codes "echo: -q drops the line")
  prints : (given message : List ℕ) → command ≡ codes "echo " ++ given → Prints given message → IsMessage message
      → Speaks command (codes "AC_MSG_RESULT") (message ∷ []) (codes "echo: -q drops the line")
  ends : (status : List ℕ) → command ≡ codes "exit " ++ status → length status ≡ 1 → list_all is_status status ≡ true
      → Speaks command (codes "AC_MSG_ERROR") (command ∷ status ∷ []) (codes "exit: an error is printed")
  fails : (message status : List ℕ) → Fails command message status
      → Speaks command (codes "AC_MSG_ERROR") (message ∷ status ∷ []) (codes "echo and exit: the message is an error")

-- ---- a command that becomes an assignment or nothing

-- The command unsets this variable alone.
pub record Unsets (command name : List ℕ) : Type 0 where
  pub is : command ≡ codes "unset " ++ name
  pub some : 0 < length name
  pub plain : list_all is_of_name name ≡ true

-- A byte of a variable's name, or a space.
abbrev pub is_of_names : ℕ → Bool
is_of_names b = is_of_name b || b == 32

-- The text is names with spaces between them.
abbrev pub AreNames : List ℕ → Type 0
AreNames names = (0 < length names) × (list_all is_of_names names ≡ true)

-- The byte, or `= ` in the place of a space.
abbrev pub set_byte : ℕ → List ℕ
set_byte b = if b == 32 then 61 ∷ 32 ∷ [] else b ∷ []

-- An assignment of nothing to each of these names.
unfoldable pub each_cleared : List ℕ → List ℕ
each_cleared names = flat_map set_byte names ++ 61 ∷ []

-- The text is this name, `=` and this word. The name may be in brackets, so that m4 doesn't take it for a macro.
abbrev pub IsSetTo : List ℕ → List ℕ → List ℕ → Type 0
IsSetTo text name word = (text ≡ name ++ (codes "=" ++ word)) ⊎ (text ≡ codes "[" ++ (name ++ (codes "]=" ++ word)))

-- The text assigns one word to a variable.
pub record IsSet (text : List ℕ) : Type 0 where
  pub name : List ℕ
  pub word : List ℕ
  pub is : IsSetTo text name word
  pub variable : IsVariable name
  pub one : IsOneWord word

-- ---- the lines

-- A text that takes the place of a command, and in what it differs: a call, an assignment, or a command that does nothing. `export` changes
-- what programs see, and acrun gives none of them a variable of the source. (POSIX shell, "export", "unset")
pub data Becomes (command : List ℕ) : List ℕ → List ℕ → Type 0 where
  spoken : (name : List ℕ) (args : List (List ℕ)) (said call : List ℕ) → Speaks command name args said → IsPut name args call → Becomes command said call
  cleared : (name : List ℕ) → Unsets command name → Becomes command (codes "unset: the variable is empty") (name ++ 61 ∷ [])
  unsets : (names : List ℕ) → command ≡ codes "unset " ++ names → AreNames names → IsAccepted (source_with (each_cleared names))
      → Becomes command (codes "unset: the variables are empty") (each_cleared names)
  exports : (names : List ℕ) → command ≡ codes "export " ++ names → AreNames names
      → Becomes command (codes "export: no program that acrun starts sees the variable") (58 ∷ [])
  exports_set : (set : List ℕ) → command ≡ codes "export " ++ set → IsSet set
      → Becomes command (codes "export: no program that acrun starts sees the variable") set

-- A comment with these words, and below it a text, each after the indent.
unfoldable pub noted : List ℕ → List ℕ → List ℕ → List ℕ
noted indent said put = ((indent ++ codes "dnl acrun: in place of ") ++ said) ++ 10 ∷ (indent ++ put)

-- The change of a line: its command, which begins outside quotes, substitutions, comments and here-documents, becomes a comment and what
-- takes the command's place.
pub record IsNoted (text : List ℕ) (change : Change) : Type 0 where
  pub at : ℕ
  pub command : List ℕ
  pub said : List ℕ
  pub put : List ℕ
  pub begins : MayBegin text at
  pub line : IsCommandLine text change.start at change.end command
  pub becomes : Becomes command said put
  pub is : change.put ≡ noted (slice_range text change.start at) said put

-- The whole text becomes this one: it is the same but for changes of lines, which are apart and in order.
abbrev pub IsTold : List ℕ → List ℕ → Type 0
IsTold text out = IsMade (IsNoted text) text out

-- The text becomes this one: lines may be broken around a command of which it is known what takes its place, and each line is then read.
pub record IsBrokenAndTold (text out : List ℕ) : Type 0 where
  pub mid : List ℕ
  pub broken : IsBroken text mid
  pub told : IsTold mid out
