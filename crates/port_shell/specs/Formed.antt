-- What the statements of a shell in a text become. The offsets are those of the text that is read. All of this is own.
use Rattle.std.specs.Prelude.{◌≡◌, ◌⊎◌, ℕ, ◌+◌, ◌<◌, ◌≤◌, true, List, [], ◌∷◌, ◌++◌, length, slice_range, slice_index, slice_get, Some, Contains, codes}
use Rattle.std.specs.List.{list_all}
use Rattle.ac_calls.specs.Calls.{MacroCall, calls_in}
use Rattle.ac_calls.specs.declared.call.Extent.{Extent}
use Rattle.lint_errors.specs.Errors.{IsAccepted}
use Rattle.port_breaks.specs.Breaks.{IsMade}
use Rattle.port_compounds.specs.Cases.{IsCase}
use Rattle.port_compounds.specs.Defaults.{IsDefaulting, assignment, empty_test}
use Rattle.port_compounds.specs.Guards.{IsGuarded, ReadsStatus}
use Rattle.port_compounds.specs.Ifs.{IsIf}
use Rattle.port_compounds.specs.Loops.{IsWrittenOut}
use Rattle.port_parts.specs.Parts.{IsListEnd}
use Rattle.port_parts.specs.Places.{is_space_or_return, AreBlank, IsWord, BeginsStatement}
use Rattle.port_edits.specs.Edits.{Change}
use Rattle.port_idioms.specs.declared.idioms.Idioms.{Idioms}
use Rattle.port_idioms.specs.declared.idioms.Idioms.TheVariants.{All}
use Rattle.port_joints.specs.Files.{HasPart, IsFileTest, IsTestOfFiles, program_of, with_answer}
use Rattle.port_joints.specs.Joints.{AllBecome, Becomes}
use Rattle.port_joints.specs.Spelled.{IsRespelled}
use Rattle.port_put.specs.Calls.{IsPut, source_with}
use Rattle.port_statements.specs.Statements.{MayBegin}

-- The comment above a statement that has the first call of its kind: what the macro requires is then checked before AS_IF or AS_CASE, and
-- no more within the statement. After it come a newline and the indent of the statement.
unfoldable pub noted : List ℕ → List ℕ
noted indent = codes "dnl acrun: in place of a statement: Autoconf makes the checks that its macros require in any case" ++ 10 ∷ indent

-- What is written right before a call: nothing, or if all idioms are wanted, also the comment.
pub data IsNote : Idioms → List ℕ → Type 0 where
  nothing : {idioms : Idioms} → IsNote idioms []
  comment : (indent : List ℕ) → list_all is_space_or_return indent ≡ true → IsNote All (noted indent)

-- `if` or `elif` is at the first of these offsets, and its condition is between the other two. (POSIX shell, 2.9.4.1)
pub record IsIfTest (text : List ℕ) (start from to : ℕ) : Type 0 where
  pub after : ℕ
  pub at_then : ℕ
  pub word : IsWord text start (codes "if") after ⊎ IsWord text start (codes "elif") after
  pub order : (start ≤ after) × (after < from)
  pub before : AreBlank text after from
  pub ends : IsListEnd text to at_then
  pub after_then : ℕ
  pub follows : IsWord text at_then (codes "then") after_then

-- A call of AS_IF is at the first of these offsets, and its condition is between the other two: its first argument is that in brackets.
pub record IsCallTest (text : List ℕ) (start from to : ℕ) : Type 0 where
  pub call : MacroCall
  pub arg : Extent
  pub is_there : Contains (calls_in text) call
  pub begins : call.start ≡ start
  pub macro : slice_range text call.start call.name_end ≡ codes "AS_IF"
  pub first : slice_get call.args 0 ≡ Some arg
  pub opened : (arg.start + 1 ≡ from) × (slice_index text arg.start ≡ 91)
  pub closed : (to < arg.end) × (slice_index text to ≡ 93)

-- A statement that a condition guards is at the first of these offsets, and begins with the condition, which is between the other two.
pub record IsListTest (text : List ℕ) (start from to : ℕ) : Type 0 where
  pub end : ℕ
  pub rest : List (List ℕ)
  pub begins : start ≡ from
  pub is : IsGuarded text start end (slice_range text from to ∷ rest)

-- One of the three is at the first of these offsets.
pub data IsTestAt (text : List ℕ) (start from to : ℕ) : Type 0 where
  of_if : IsIfTest text start from to → IsTestAt text start from to
  of_call : IsCallTest text start from to → IsTestAt text start from to
  of_list : IsListTest text start from to → IsTestAt text start from to

-- The offsets are in this order.
abbrev pub AreOrdered : List ℕ → ℕ → ℕ → ℕ → Type 0
AreOrdered text start from to = (start ≤ from) × (from ≤ to) × (to ≤ length text)

-- A condition is between the last two of these offsets, of a statement at the first one, which begins outside quotes, substitutions, comments
-- and here-documents.
pub record IsPlace (text : List ℕ) (start from to : ℕ) : Type 0 where
  pub begins : MayBegin text start
  pub is : IsTestAt text start from to
  pub order : AreOrdered text start from to

-- The comment above a condition that is spelled otherwise. After it come a newline and the indent of the statement.
unfoldable pub spelled_so : List ℕ → List ℕ
spelled_so indent = codes "dnl acrun: in place of ==, -eq or -ne: the words are compared as texts" ++ 10 ∷ indent

unfoldable pub root_front : List ℕ
root_front = codes "AC_RUN_IFELSE(["

unfoldable pub root_back : List ℕ
root_back = codes "], [], [AC_MSG_ERROR([no program can ask for a file here; see config.log])], [:])"

-- What asks for the root directory, which is there. If the answer is no, the run stops.
unfoldable pub root_call : List ℕ
root_call = (root_front ++ program_of 101 (codes "/")) ++ root_back

-- What is done if there is no such file: this variable is set to `no`, and the root directory is asked for, since a program that can't be made
-- or run says no too.
abbrev pub lacking : List ℕ → List ℕ
lacking name = (name ++ codes "=no") ++ 10 ∷ root_call

-- What asks for a file, before a statement with the test of it: a call of AC_RUN_IFELSE with a program that asks, which sets this variable to
-- `yes` or `no`. In a cross build, in which no program can be run, the answer is no.
abbrev pub Asks : ℕ → List ℕ → List ℕ → List ℕ → Type 0
Asks letter path name call = IsPut (codes "AC_RUN_IFELSE") (program_of letter path ∷ (name ++ codes "=yes") ∷ lacking name ∷ (name ++ codes "=no") ∷ []) call

-- The condition becomes this one, and this call asks for a file that it tests. The variable is not in the condition before.
pub record IsAsked (condition put call : List ℕ) : Type 0 where
  pub at : ℕ
  pub letter : ℕ
  pub from : ℕ
  pub to : ℕ
  pub end : ℕ
  pub name : List ℕ
  pub test : IsFileTest condition at letter from to end
  pub readable : IsTestOfFiles condition
  pub new_name : HasPart condition name → ⊥
  pub asks : Asks letter (slice_range condition from to) name call
  pub is : put ≡ with_answer condition at end name

-- AC_PROG_CC is before this offset.
pub record HasCompiler (text : List ℕ) (start : ℕ) : Type 0 where
  pub call : MacroCall
  pub is_there : Contains (calls_in text) call
  pub macro : slice_range text call.start call.name_end ≡ codes "AC_PROG_CC"
  pub before : call.end ≤ start

-- A statement may begin at this offset, which isn't `elif`, and AC_PROG_CC is before it.
pub record MayAskAt (text : List ℕ) (start : ℕ) : Type 0 where
  pub begins : BeginsStatement text start
  pub no_branch : IsWord text start (codes "elif") (start + 4) → ⊥
  pub compiler : HasCompiler text start

unfoldable pub asked_said : List ℕ
asked_said = codes "dnl acrun: in place of a test of a file: a program asks, to which a backslash of a variable is one of C, and whose answer is no in a cross build and if the word is empty"

-- The flags of the moment, with which a program may not be made or run, are kept and emptied.
unfoldable pub flags_kept : List ℕ
flags_kept = codes "acrun_CFLAGS=$CFLAGS acrun_CPPFLAGS=$CPPFLAGS acrun_LDFLAGS=$LDFLAGS acrun_LIBS=$LIBS CFLAGS= CPPFLAGS= LDFLAGS= LIBS="

-- They are put back.
unfoldable pub flags_back : List ℕ
flags_back = codes "CFLAGS=$acrun_CFLAGS CPPFLAGS=$acrun_CPPFLAGS LDFLAGS=$acrun_LDFLAGS LIBS=$acrun_LIBS"

-- A line, and the indent of the next one.
abbrev pub ended : List ℕ → List ℕ → List ℕ
ended indent text = text ++ 10 ∷ indent

-- The comment above a call that asks for a file, and the call without the flags of the moment, with the indent of the statement before each
-- line and after it.
unfoldable pub asked_so : List ℕ → List ℕ → List ℕ
asked_so indent call = ((ended indent asked_said ++ ended indent flags_kept) ++ ended indent call) ++ ended indent flags_back

-- Between these offsets is a statement with these parts, as AS_IF takes them: an `if`, or, if the text reads no status of a command, a
-- statement after `&&` or `||` and its condition.
pub data IsChoice (text : List ℕ) (start end : ℕ) (parts : List (List ℕ)) : Type 0 where
  branches : IsIf text start end parts → IsChoice text start end parts
  guard : IsGuarded text start end parts → (ReadsStatus text → ⊥) → IsChoice text start end parts

-- This may be put in the place of a statement between these offsets. Of an `if` and of a statement that a condition guards it is the call of
-- AS_IF with the same conditions and bodies in the same order, but in a condition `-a` and `-o` of `test` may become `&&` and `||`. Of a `case` it
-- is the call of AS_CASE with the same word, patterns and bodies.
-- Of `NAME=${NAME:-WORD}` it is the call of AS_IF that assigns the word if the variable is empty. Of a `for` it is its turns, if acrun accepts them.
pub data MayPut (text : List ℕ) (start end : ℕ) (put : List ℕ) : Type 0 where
  chosen : (parts texts : List (List ℕ)) → IsChoice text start end parts → AllBecome parts texts → IsPut (codes "AS_IF") texts put → MayPut text start end put
  cased : (parts : List (List ℕ)) → IsCase text start end parts → IsPut (codes "AS_CASE") parts put → MayPut text start end put
  defaulted : (name word : List ℕ) → IsDefaulting text start end name word → IsPut (codes "AS_IF") (empty_test name ∷ assignment name word ∷ []) put
      → MayPut text start end put
  repeated : IsWrittenOut text start end put → IsAccepted (source_with put) → MayPut text start end put

-- The change of a condition in which `-a` and `-o` of `test` become `&&` and `||`.
pub record IsTested (text : List ℕ) (change : Change) : Type 0 where
  pub start : ℕ
  pub place : IsPlace text start change.start change.end
  pub become : Becomes (slice_range text change.start change.end) change.put

-- The change of a statement up to the end of its condition, in which `==`, `-eq` and `-ne` are spelled otherwise, or which has the answer of a
-- program in the place of a test of a file. A comment comes right before the statement, and with an answer the call that asks.
pub data IsIdiom (text : List ℕ) (change : Change) : Type 0 where
  respelled : (from : ℕ) (put indent : List ℕ) → IsPlace text change.start from change.end → IsRespelled (slice_range text from change.end) put
      → list_all is_space_or_return indent ≡ true → change.put ≡ spelled_so indent ++ (slice_range text change.start from ++ put) → IsIdiom text change
  asked : (from : ℕ) (put call indent : List ℕ) → IsPlace text change.start from change.end → MayAskAt text change.start
      → IsAsked (slice_range text from change.end) put call → list_all is_space_or_return indent ≡ true
      → change.put ≡ asked_so indent call ++ (slice_range text change.start from ++ put) → IsIdiom text change

-- The change of a part of a text: what may be put in the place of a statement that begins outside quotes, substitutions, comments and
-- here-documents, with a comment right before it if all idioms are wanted; or a condition that is written otherwise.
pub data IsEdit (idioms : Idioms) (text : List ℕ) (change : Change) : Type 0 where
  changed : (note put : List ℕ) → MayBegin text change.start → MayPut text change.start change.end put → IsNote idioms note → change.put ≡ note ++ put → IsEdit idioms text change
  tested : IsTested text change → IsEdit idioms text change
  idiom : idioms ≡ All → IsIdiom text change → IsEdit idioms text change

-- The one text becomes the other by passes, each of which reads what the one before it wrote, and makes such changes, which are apart and in
-- order. All else is copied.
pub data IsFormed (idioms : Idioms) : List ℕ → List ℕ → Type 0 where
  same : {text : List ℕ} → IsFormed idioms text text
  passed : {text mid out : List ℕ} → IsFormed idioms text mid → IsMade (IsEdit idioms mid) mid out → IsFormed idioms text out
