-- What a source that acrun accepts gets for its templates. The offsets are those of the text that is read. All of this is own.
use Rattle.std.specs.Prelude.{◌≡◌, ℕ, ◌+◌, ◌≤◌, nat_eq, nat_le, nat_lt, Bool, true, false, List, [], ◌∷◌, ◌++◌, length, take, drop, ◌&&◌, bytes_eq, codes, if◌then◌else◌, Option, Some, None, ⊤}
use Rattle.std.specs.List.{starts_with, list_any, fold}
use Rattle.ac_calls.specs.Calls.{MacroCall, calls_in}
use Rattle.lint_errors.specs.Errors.{IsAccepted}
use Rattle.lint_findings.specs.declared.finding.Finding.{Finding}
use Rattle.lint_sources.specs.declared.wants.Wanted.{Wanted}
use Rattle.lint_templates.specs.Served.{lines_for, lines_for_all}
use Rattle.lint_text.specs.Parts.{after_blanks, from, part}
use Rattle.lint_text.specs.Places.{line_start, line_end}
use Rattle.port_idioms.specs.declared.idioms.Idioms.{Idioms}
use Rattle.port_idioms.specs.declared.idioms.Idioms.TheVariants.{Exact, All}
use Rattle.cmd_port.specs.Ported.{HasLeft, IsCommented, is_line_start}

-- ---- what is known of templates

-- What the templates of a source want of it, and what is left to do in them, once it has a text.
pub record Templates : Type 0 where
  pub wants : List ℕ → Wanted
  pub left : List ℕ → List Finding

-- What is found that they want, if it is known.
abbrev pub IsWanted : Option Templates → List ℕ → Wanted → Type 0
IsWanted None text found = ⊤
IsWanted (Some templates) text found = found ≡ templates.wants text

-- What is found that is left to do in them, if it is known.
abbrev pub IsLeft : Option Templates → List ℕ → List Finding → Type 0
IsLeft None text found = ⊤
IsLeft (Some templates) text found = found ≡ templates.left text

-- ---- places

-- The call is one of the macro with this name.
abbrev pub is_named : List ℕ → List ℕ → MacroCall → Bool
is_named text name call = bytes_eq (part text call.start call.name_end) name

-- The line of a call, if it is one of AC_OUTPUT, or else what was found before it.
abbrev pub output_after : List ℕ → Option ℕ → MacroCall → Option ℕ
output_after text before call = if is_named text (codes "AC_OUTPUT") call then Some (line_start text call.start) else before

-- The offset of the line of the last call of AC_OUTPUT.
abbrev pub output_place : List ℕ → List MacroCall → Option ℕ
output_place text calls = fold (output_after text) None calls

-- The call is in another one.
abbrev pub is_within : MacroCall → MacroCall → Bool
is_within call other = nat_lt other.start call.start && nat_le call.end other.end

-- The offset of the line after a call, if it is in none of these calls.
abbrev pub line_after : List ℕ → List MacroCall → MacroCall → Option ℕ
line_after text calls call = if list_any (is_within call) calls then None else Some (line_end text call.end + 1)

-- The offset of the line after the first of some calls that looks for the compiler, if that is in none of these calls.
abbrev pub compiler_among : List ℕ → List MacroCall → List MacroCall → Option ℕ
compiler_among text calls [] = None
compiler_among text calls (call ∷ more) = if is_named text (codes "AC_PROG_CC") call then line_after text calls call else compiler_among text calls more

-- The same, of the calls of the text.
abbrev pub compiler_place : List ℕ → List MacroCall → Option ℕ
compiler_place text calls = compiler_among text calls calls

-- ---- lines

-- Lines that differ from what Autoconf does are wanted too.
abbrev pub are_all : Idioms → Bool
are_all Exact = false
are_all All = true

-- A line of the text begins at this offset.
abbrev pub is_line : List ℕ → ℕ → Bool
is_line text at = nat_le at (length text) && is_line_start text at

-- A line of the text begins at this offset, and AC_OUTPUT is first in it.
abbrev pub is_output_line : List ℕ → ℕ → Bool
is_output_line text at = is_line text at && starts_with nat_eq (after_blanks (from text at)) (codes "AC_OUTPUT")

-- The text with lines above the line at an offset.
abbrev pub with_lines : List ℕ → List ℕ → ℕ → List ℕ
with_lines lines text at = take at text ++ lines ++ drop at text

-- The text with lines above the line at an offset, if they may be there.
abbrev pub with_lines_if : Bool → List ℕ → List ℕ → ℕ → List ℕ
with_lines_if true lines text at = with_lines lines text at
with_lines_if false lines text at = text

-- The text with the lines that set names above the line of its last AC_OUTPUT, if that is first in it.
abbrev pub with_names_at : Bool → List (List ℕ) → List ℕ → Option ℕ → List ℕ
with_names_at all names text None = text
with_names_at all names text (Some at) = with_lines_if (is_output_line text at) (lines_for_all all names) text at

abbrev pub with_names : Bool → List (List ℕ) → List ℕ → List ℕ
with_names all names text = with_names_at all names text (output_place text (calls_in text))

-- The text with the line that sets CFLAGS below the first call that looks for the compiler, if there is a line for it.
abbrev pub with_flags_at : Bool → List ℕ → Option ℕ → List ℕ
with_flags_at all text None = text
with_flags_at all text (Some at) = with_lines_if (is_line text at) (lines_for all (codes "CFLAGS")) text at

-- The same, if it is wanted.
abbrev pub with_flags : Bool → Bool → List ℕ → List ℕ
with_flags all false text = text
with_flags all true text = with_flags_at all text (compiler_place text (calls_in text))

-- The text with the lines that are wanted.
unfoldable pub with_wanted : Bool → Wanted → List ℕ → List ℕ
with_wanted all wanted text = with_names all wanted.names (with_flags all wanted.flags text)

-- ---- the end

-- What a text becomes: it has the lines that are wanted, if acrun accepts it with them, and otherwise it stays.
pub data IsServed (all : Bool) (wanted : Wanted) (text : List ℕ) : List ℕ → Type 0 where
  taken : IsAccepted (with_wanted all wanted text) → IsServed all wanted text (with_wanted all wanted text)
  stays : (IsAccepted (with_wanted all wanted text) → ⊥) → IsServed all wanted text text

-- What is left to do in the templates is said in comments, one of which is there; or nothing is left, and the text stays.
abbrev pub IsLeftSaid : List Finding → List ℕ → Bool → List ℕ → Type 0
IsLeftSaid [] text has_comments out = (out ≡ text) × (has_comments ≡ false)
IsLeftSaid (finding ∷ more) text has_comments out = IsCommented text (length text) out × HasLeft out × (has_comments ≡ true)

-- A text that acrun accepts gets the lines that its templates want of it, and what it becomes is accepted too. Comments say what is then
-- left to do in them.
pub record IsFinished (templates : Option Templates) (idioms : Idioms) (text : List ℕ) (has_comments : Bool) (out : List ℕ) : Type 0 where
  pub wanted : Wanted
  pub is_wanted : IsWanted templates text wanted
  pub next : List ℕ
  pub served : IsServed (are_all idioms) wanted text next
  pub accepted : IsAccepted next
  pub left : List Finding
  pub is_left : IsLeft templates next left
  pub said : IsLeftSaid left next has_comments out

-- What a text that was rewritten becomes for its templates. If it is standard input's, or has comments about what is left in itself, it
-- stays.
abbrev pub IsEnded : Option Templates → Bool → Bool → Idioms → List ℕ → Bool → List ℕ → Type 0
IsEnded templates true had idioms text has out = (out ≡ text) × (has ≡ had)
IsEnded templates false true idioms text has out = (out ≡ text) × (has ≡ true)
IsEnded templates false false idioms text has out = IsFinished templates idioms text has out
