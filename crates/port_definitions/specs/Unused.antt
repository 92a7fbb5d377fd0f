-- Definitions of macros that nothing calls. A name that a comment has is no call of it.
use Rattle.std.specs.Prelude.{◌≡◌, ◌⊎◌, ℕ, ◌-◌, ◌<◌, ◌≤◌, ◌==◌, ◌||◌, ◌&&◌, not, nat_eq, nat_lt, Bool, true, List, length, slice_range, slice_index, slice_get, Some, codes}
use Rattle.std.specs.List.{list_all, starts_with}
use Rattle.text_cut.specs.Cuts.{is_space, trimmed}
use Rattle.ac_calls.specs.Calls.{MacroCall}
use Rattle.ac_calls.specs.declared.call.Extent.{Extent}
use Rattle.ac_statement.specs.Inside.{is_run}
use Rattle.port_idioms.specs.Filled.{text_of}
use Rattle.port_definitions.specs.Defined.{IsWordAt, arg_text, is_of_name}

-- No newline, bracket or `$`, by which m4 may end a comment. (own)
abbrev pub is_remark_byte : ℕ → Bool
is_remark_byte b = not (b == 10 || b == 91 || b == 93 || b == 36)

-- The text begins with `#` or `dnl`, after which m4 expands no macro up to the end of the line. (manual, "Comments" and "Dnl" of GNU M4)
abbrev pub is_remark : List ℕ → Bool
is_remark text = starts_with nat_eq text (codes "#") || starts_with nat_eq text (codes "dnl ")

-- A line begins at this offset.
abbrev pub BeginsLine : List ℕ → ℕ → Type 0
BeginsLine text at = (at ≡ 0) ⊎ (slice_index text (at - 1) ≡ 10)

-- The place at this offset is in a comment, which nothing but spaces is before: on its line, or right after the definition that has this end.
pub record IsRemark (text : List ℕ) (end at : ℕ) : Type 0 where
  pub front : ℕ
  pub sign : ℕ
  pub order : (front ≤ sign) × (sign ≤ at)
  pub begins : BeginsLine text front ⊎ (front ≡ end)
  pub blank : list_all is_space (slice_range text front sign) ≡ true
  pub remark : is_remark (slice_range text sign at) ≡ true
  pub within : list_all is_remark_byte (slice_range text sign at) ≡ true

-- m4 takes the name for a macro nowhere in the text but, perhaps, between these offsets.
abbrev pub IsUncalled : List ℕ → ℕ → ℕ → List ℕ → Type 0
IsUncalled text start end name = (at : ℕ) → at < length text → IsWordAt text at name → ((start ≤ at) × (at < end)) ⊎ IsRemark text end at

-- The call is AC_DEFUN of a macro of this plain name, which nothing outside of it calls. Its body is one quoted text, so m4 expands no
-- macro in it. (manual, "Macro Definitions")
pub record DefinesUnused (text : List ℕ) (d : MacroCall) (name : List ℕ) : Type 0 where
  pub macro : slice_range text d.start d.name_end ≡ codes "AC_DEFUN"
  pub title : Extent
  pub first : slice_get d.args 0 ≡ Some title
  pub what : Extent
  pub second : slice_get d.args 1 ≡ Some what
  pub two : length d.args ≡ 2
  pub name_is : name ≡ text_of (Some (arg_text text title))
  pub named : (nat_lt 0 (length name) && list_all is_of_name name) ≡ true
  pub quoted : is_run (trimmed (arg_text text what)) ≡ true
  pub uncalled : IsUncalled text d.start d.end name
