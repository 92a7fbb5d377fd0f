-- Commands in a line, which get lines of their own. The offsets are those of the text that is read. All of this is own.
use Rattle.std.specs.Prelude.{◌≡◌, ◌⊎◌, ℕ, ◌+◌, ◌-◌, ◌≤◌, nat_lt, ◌&&◌, Bool, true, List, [], ◌∷◌, ◌++◌, length, slice_index, slice_range, codes, All}
use Rattle.std.specs.List.{list_all}
use Rattle.port_parts.specs.Places.{AreSpaces, BeginsStatement, IsWord, is_space_or_return}
use Rattle.port_edits.specs.Edits.{Change, AreApart, with_changes}
use Rattle.port_echo.specs.Commands.{IsBlankEcho}
use Rattle.port_echo.specs.Echo.{IsMessage, Prints}

-- A digit that isn't 0.
abbrev pub is_status : ℕ → Bool
is_status b = nat_lt 48 b && nat_lt b 58

-- The command is one of which it is known what takes its place: it prints a line by `echo`, or ends the run with such a status.
pub data IsTold (command : List ℕ) : Type 0 where
  blank : IsBlankEcho command → IsTold command
  prints : (given message : List ℕ) → command ≡ codes "echo " ++ given → Prints given message → IsMessage message → IsTold command
  ends : (status : List ℕ) → command ≡ codes "exit " ++ status → length status ≡ 1 → list_all is_status status ≡ true → IsTold command

-- A statement may begin at this offset: one does after spaces and the byte or the word before them, or `do` is right before the offset
-- `from`, and there are spaces alone after it.
abbrev pub Begins : List ℕ → ℕ → ℕ → Type 0
Begins text from at = BeginsStatement text at ⊎ IsWord text (from - 2) (codes "do") from

-- A branch of a `case` or the argument of a macro ends at this offset.
abbrev pub EndsPart : List ℕ → ℕ → Type 0
EndsPart text at = (slice_range text at (at + 2) ≡ 59 ∷ 59 ∷ []) ⊎ (slice_index text at ≡ 93)

-- A `;` is at this offset, which ends a command and nothing more.
abbrev pub EndsCommand : List ℕ → ℕ → Type 0
EndsCommand text at = (slice_index text at ≡ 59) × (slice_index text (at + 1) ≡ 59 → ⊥)

-- A line may be broken between these offsets: there are spaces alone, before such a command that begins there, or after one and before the
-- end of a part; or a `;` with spaces around it is there, after such a command.
pub data MayBreak (text : List ℕ) (start end : ℕ) : Type 0 where
  before : (to : ℕ) → AreSpaces text start end → Begins text start end → IsTold (slice_range text end to) → MayBreak text start end
  after : (from : ℕ) → IsTold (slice_range text from start) → AreSpaces text start end → EndsPart text end → MayBreak text start end
  joined : (from at : ℕ) → IsTold (slice_range text from start) → AreSpaces text start at → EndsCommand text at → AreSpaces text (at + 1) end → MayBreak text start end

-- The change of what is between two such offsets into a newline and spaces.
pub record IsBreak (text : List ℕ) (change : Change) : Type 0 where
  pub indent : List ℕ
  pub may : MayBreak text change.start change.end
  pub blank : list_all is_space_or_return indent ≡ true
  pub is : change.put ≡ (10 ∷ 32 ∷ 32 ∷ []) ++ indent

-- The text becomes this one: it is the same but for changes of a kind, which are apart and in order.
pub record IsMade (P : Change → Type 0) (text out : List ℕ) : Type 0 where
  pub changes : List Change
  pub apart : AreApart text 0 changes
  pub each : All P changes
  pub is : out ≡ with_changes text 0 changes

-- The text becomes this one, with lines broken where they may be.
abbrev pub IsBroken : List ℕ → List ℕ → Type 0
IsBroken text out = IsMade (IsBreak text) text out
