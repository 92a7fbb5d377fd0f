-- Macros without parameters that the source itself defines. (manual, "Macro Definitions")
use Rattle.std.specs.Prelude.{◌≡◌, ◌⊎◌, ℕ, ◌+◌, ◌-◌, ◌<◌, ◌≤◌, ◌==◌, ◌||◌, ◌&&◌, nat_lt, Bool, true, false, List, [], ◌∷◌, ◌++◌, length, slice_range, slice_index, slice_get, Some, codes}
use Rattle.std.specs.List.{list_all}
use Rattle.std.specs.Char.{is_ascii_alphabetic, is_ascii_alphanumeric, is_ascii_digit}
use Rattle.ac_calls.specs.Calls.{MacroCall}
use Rattle.ac_calls.specs.declared.call.Extent.{Extent}
use Rattle.text_cut.specs.Cuts.{is_blank}
use Rattle.port_idioms.specs.Filled.{text_of}
use Rattle.lint_text.specs.Parts.{part}

-- The text of an argument. (own)
abbrev pub arg_text : List ℕ → Extent → List ℕ
arg_text text arg = part text arg.start arg.end

-- A digit, or one of `# * @`. After a `$` it makes a parameter. (manual, "Arguments" of GNU M4)
abbrev pub is_parameter_sign : ℕ → Bool
is_parameter_sign b = (nat_lt 47 b && nat_lt b 58) || b == 35 || b == 42 || b == 64

-- At this offset is a parameter.
abbrev pub IsParameterAt : List ℕ → ℕ → Type 0
IsParameterAt text at = (slice_index text at ≡ 36) × (is_parameter_sign (slice_index text (at + 1)) ≡ true)

-- The text has a parameter.
abbrev pub HasParameter : List ℕ → Type 0
HasParameter text = (at : ℕ) × (at + 1 < length text) × IsParameterAt text at

-- The call is AC_DEFUN of a macro of this name, which has this body and no parameters.
pub record Defines (text : List ℕ) (d : MacroCall) (name body : List ℕ) : Type 0 where
  pub macro : slice_range text d.start d.name_end ≡ codes "AC_DEFUN"
  pub title : Extent
  pub first : slice_get d.args 0 ≡ Some title
  pub what : Extent
  pub second : slice_get d.args 1 ≡ Some what
  pub two : length d.args ≡ 2
  pub name_is : name ≡ text_of (Some (arg_text text title))
  pub body_is : body ≡ text_of (Some (arg_text text what))
  pub plain : HasParameter body → ⊥

-- A letter, a digit or `_`.
abbrev pub is_of_name : ℕ → Bool
is_of_name b = is_ascii_alphanumeric b || b == 95

-- No such byte is right before this offset.
abbrev pub BeginsName : List ℕ → ℕ → Type 0
BeginsName text at = (at ≡ 0) ⊎ (is_of_name (slice_index text (at - 1)) ≡ false)

-- A blank is at this offset, or the text ends there.
abbrev pub EndsName : List ℕ → ℕ → Type 0
EndsName text at = (at ≡ length text) ⊎ (is_blank (slice_index text at) ≡ true)

-- At this offset is the name, with a blank after it, and not as a part of another name.
abbrev pub IsNameAt : List ℕ → ℕ → List ℕ → Type 0
IsNameAt text at name = (slice_range text at (at + length name) ≡ name) × BeginsName text at × EndsName text (at + length name)

-- A letter or `_`, with which the name of a macro may begin. (manual, "Names" of GNU M4)
abbrev pub is_letter : ℕ → Bool
is_letter b = is_ascii_alphabetic b || b == 95

-- m4 takes what begins at this offset for a name of its own. It may do so after digits, if they are no part of a longer name. (manual,
-- "Names" of GNU M4)
pub record BeginsWord (text : List ℕ) (at : ℕ) : Type 0 where
  pub front : ℕ
  pub order : front ≤ at
  pub digits : (i : ℕ) → front ≤ i → i < at → is_ascii_digit (slice_index text i) ≡ true
  pub begins : BeginsName text front

-- No name goes on at this offset.
abbrev pub EndsWord : List ℕ → ℕ → Type 0
EndsWord text at = (at ≡ length text) ⊎ (is_of_name (slice_index text at) ≡ false)

-- m4 may take the name at this offset for a macro, whatever is after it.
abbrev pub IsWordAt : List ℕ → ℕ → List ℕ → Type 0
IsWordAt text at name = (slice_range text at (at + length name) ≡ name) × BeginsWord text at × EndsWord text (at + length name)

-- The name is nowhere from this offset on, except as a part of longer ones.
abbrev pub IsUnused : List ℕ → ℕ → List ℕ → Type 0
IsUnused text start name = (at : ℕ) → start ≤ at → at < length text → IsWordAt text at name → ⊥

-- ---- plain words

-- A digit, `.` or `-`. (own)
abbrev pub is_plain_byte : ℕ → Bool
is_plain_byte b = is_ascii_digit b || b == 46 || b == 45

-- The definition of a name as a word. (manual, "Redefined M4 Macros")
unfoldable pub definition_of : List ℕ → List ℕ → List ℕ
definition_of name word = codes "define(" ++ name ++ codes ", " ++ word ++ 41 ∷ []

-- Between these offsets a macro of this name is defined as this plain word.
pub record DefinesWord (text : List ℕ) (start end : ℕ) (name word : List ℕ) : Type 0 where
  pub is : slice_range text start end ≡ definition_of name word
  pub named : (nat_lt 0 (length name) && list_all is_of_name name) ≡ true
  pub plain : list_all is_plain_byte word ≡ true

-- m4 takes the name at this offset for a macro without arguments.
pub record IsPlainUse (text : List ℕ) (at : ℕ) (name : List ℕ) : Type 0 where
  pub here : slice_range text at (at + length name) ≡ name
  pub begins : BeginsWord text at
  pub ends : EndsWord text (at + length name)
  pub no_argument : slice_index text (at + length name) ≡ 40 → ⊥
