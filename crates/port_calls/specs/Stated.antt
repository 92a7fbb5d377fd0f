-- A name and a version that are given from outside, in the place of those of AC_INIT. All of this is own.
use Rattle.std.specs.Prelude.{◌≡◌, ℕ, ◌+◌, ◌-◌, ◌<◌, ◌≤◌, ◌==◌, ◌||◌, not, nat_eq, Bool, true, false, List, ◌∷◌, ◌++◌, length, slice_range, slice_index, slice_get, Some, Contains, codes}
use Rattle.std.specs.Char.{is_ascii_digit}
use Rattle.std.specs.List.{list_all, list_any, ends_with}
use Rattle.ac_calls.specs.Calls.{MacroCall, calls_in}
use Rattle.ac_calls.specs.declared.call.Extent.{Extent}
use Rattle.port_idioms.specs.Filled.{text_of}
use Rattle.port_definitions.specs.Defined.{EndsWord, is_of_name}
use Rattle.port_spots.specs.Put.{arg_text, difference, is_space_or_return}

-- ---- what is not kept

-- No newline, `$`, backquote or bracket.
abbrev pub is_kept_byte : ℕ → Bool
is_kept_byte b = not (b == 10 || b == 36 || b == 96 || b == 91 || b == 93)

-- At this offset is a parenthesis right after a name.
pub record IsOpenedAt (word : List ℕ) (at : ℕ) : Type 0 where
  pub after : 0 < at
  pub within : at < length word
  pub opens : slice_index word at ≡ 40
  pub name : is_of_name (slice_index word (at - 1)) ≡ true

-- A macro is called in the text, by a name with a parenthesis right after it.
pub record HasMacro (word : List ℕ) : Type 0 where
  pub at : ℕ
  pub is : IsOpenedAt word at

-- A text ends in the name of a macro that defines another one, with a parenthesis and perhaps a bracket.
abbrev pub is_defining : List ℕ → Bool
is_defining text =
    ends_with nat_eq text (codes "define(") || ends_with nat_eq text (codes "define([")
    || ends_with nat_eq text (codes "DEFUN(") || ends_with nat_eq text (codes "DEFUN([")

-- At this offset the source defines a macro of this name.
pub record IsDefinedAt (text name : List ℕ) (at : ℕ) : Type 0 where
  pub defines : is_defining (slice_range text 0 at) ≡ true
  pub name_is : slice_range text at (at + length name) ≡ name
  pub ends : EndsWord text (at + length name)

-- A part of the text is such a name.
pub record NamesMacro (text word : List ℕ) : Type 0 where
  pub start : ℕ
  pub end : ℕ
  pub order : (start < end) × (end ≤ length word)
  pub at : ℕ
  pub is : IsDefinedAt text (slice_range word start end) at

-- This name or this version of AC_INIT is not kept: it is empty, a byte of it is that of a command or of quotes, a macro is called in it,
-- or it has the name of one that the source defines.
pub data IsUnkept (text word : List ℕ) : Type 0 where
  empty : length word ≡ 0 → IsUnkept text word
  unread : list_all is_kept_byte word ≡ false → IsUnkept text word
  called : HasMacro word → IsUnkept text word
  named : NamesMacro text word → IsUnkept text word

-- AC_INIT has no name and version that are kept. A version has a digit.
pub data LacksTitle (text name version : List ℕ) : Type 0 where
  nameless : IsUnkept text name → LacksTitle text name version
  versionless : IsUnkept text version → LacksTitle text name version
  unnumbered : list_any is_ascii_digit version ≡ false → LacksTitle text name version

-- These are the first two arguments of a call of AC_INIT, a name and a version that aren't both kept.
pub record IsUntitled (text : List ℕ) (c : MacroCall) (name version : Extent) : Type 0 where
  pub macro : slice_range text c.start c.name_end ≡ codes "AC_INIT"
  pub first : slice_get c.args 0 ≡ Some name
  pub second : slice_get c.args 1 ≡ Some version
  pub lacks : LacksTitle text (text_of (Some (arg_text text name))) (text_of (Some (arg_text text version)))

-- ---- what is put

-- The front of a call of AC_INIT with this name and this version, up to the end of its second argument.
abbrev pub init_of : List ℕ → List ℕ → List ℕ
init_of name version = codes "AC_INIT([" ++ name ++ codes "], [" ++ version ++ codes "]"

-- The same below a comment that says where they are from.
abbrev pub stated_init : List ℕ → List ℕ → List ℕ → List ℕ
stated_init indent name version = difference (codes "AC_INIT") (codes " the name and the version are those of --package") ++ (10 ∷ indent ++ init_of name version)

-- One call of AC_INIT alone is another: below a comment it has this name and this version in the place of its own, and its further
-- arguments. All else is copied.
pub record IsStated (name version text out : List ℕ) : Type 0 where
  pub call : MacroCall
  pub is_there : Contains (calls_in text) call
  pub old_name : Extent
  pub old_version : Extent
  pub untitled : IsUntitled text call old_name old_version
  pub indent : List ℕ
  pub blank : list_all is_space_or_return indent ≡ true
  pub order : (call.start ≤ old_version.end) × (old_version.end ≤ length text)
  pub is : out ≡ (slice_range text 0 call.start ++ stated_init indent name version) ++ slice_range text old_version.end (length text)
