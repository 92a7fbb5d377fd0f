-- Which lines a source needs after AC_PROG_CC for the default headers. All of this is own, but for the default headers.
use Rattle.std.specs.Prelude.{◌≡◌, ◌⊎◌, ℕ, ◌+◌, ◌-◌, ◌<◌, ◌==◌, ◌||◌, Bool, true, false, List, [], ◌∷◌, length, slice_range, slice_index, slice_get, Some, All, Contains, bytes_eq, codes}
use Rattle.std.specs.List.{list_all, list_any}
use Rattle.text_cut.specs.Cuts.{is_blank}
use Rattle.lint_text.specs.Parts.{part, is_word_byte}
use Rattle.lint_text.specs.Places.{line_end}
use Rattle.ac_calls.specs.Calls.{MacroCall}
use Rattle.ac_calls.specs.declared.call.Extent.{Extent}
use Rattle.port_idioms.specs.Filled.{text_of}
use Rattle.port_spots.specs.Put.{arg_text}

-- ---- names

-- The default headers. (manual, "Default Includes")
unfoldable pub defaults : List (List ℕ)
defaults =
    codes "stdio.h" ∷ codes "stdlib.h" ∷ codes "string.h" ∷ codes "inttypes.h" ∷ codes "stdint.h" ∷ codes "strings.h" ∷ codes "sys/stat.h" ∷ codes "sys/types.h"
    ∷ codes "unistd.h" ∷ []

-- The macros that make the checks of the default headers, with Autoconf.
unfoldable pub including : List (List ℕ)
including =
    codes "AC_CHECK_ALIGNOF" ∷ codes "AC_CHECK_DECL" ∷ codes "AC_CHECK_DECLS" ∷ codes "AC_CHECK_HEADER" ∷ codes "AC_CHECK_HEADERS" ∷ codes "AC_CHECK_MEMBER"
    ∷ codes "AC_CHECK_MEMBERS" ∷ codes "AC_CHECK_SIZEOF" ∷ codes "AC_CHECK_TYPE" ∷ codes "AC_CHECK_TYPES" ∷ codes "AC_HAVE_HEADERS" ∷ codes "AC_HEADER_STDC"
    ∷ codes "AC_TYPE_MODE_T" ∷ codes "AC_TYPE_OFF_T" ∷ codes "AC_TYPE_PID_T" ∷ codes "AC_TYPE_SIZE_T" ∷ []

-- The macros that make a header.
unfoldable pub making : List (List ℕ)
making = codes "AC_CONFIG_HEADERS" ∷ codes "AC_CONFIG_HEADER" ∷ codes "AM_CONFIG_HEADER" ∷ []

-- The macros that look for each header of a list.
unfoldable pub looking : List (List ℕ)
looking = codes "AC_CHECK_HEADER" ∷ codes "AC_CHECK_HEADERS" ∷ []

-- The macros that define a name.
unfoldable pub defining : List (List ℕ)
defining = codes "AC_DEFINE" ∷ codes "AC_DEFINE_UNQUOTED" ∷ []

-- ---- what is called

-- The name is one of these.
abbrev pub is_one_of : List (List ℕ) → List ℕ → Bool
is_one_of names name = list_any (λ other. bytes_eq other name) names

-- The call is one of a macro of these names.
abbrev pub IsCallOf : List ℕ → List (List ℕ) → MacroCall → Type 0
IsCallOf text names c = is_one_of names (part text c.start c.name_end) ≡ true

-- No macro of these names is called.
abbrev pub LacksCall : List ℕ → List MacroCall → List (List ℕ) → Type 0
LacksCall text calls names = All (λ c. is_one_of names (part text c.start c.name_end) ≡ false) calls

-- The source makes no check of the default headers with Autoconf, or has no header for what they define.
abbrev pub IncludesNone : List ℕ → List MacroCall → Type 0
IncludesNone text calls = LacksCall text calls including ⊎ LacksCall text calls making

-- ---- what a call looks for or defines

-- A letter, a digit, one of `_ . / - +`, or a blank.
abbrev pub is_list_byte : ℕ → Bool
is_list_byte b = is_word_byte b || b == 46 || b == 47 || b == 45 || b == 43 || is_blank b

-- `dnl` is at this offset. m4 might drop the rest of a line after it.
abbrev pub IsDropAt : List ℕ → ℕ → Type 0
IsDropAt text at = slice_range text at (at + 3) ≡ codes "dnl"

-- The list has nothing but such bytes, and `dnl` is nowhere in it.
abbrev pub IsPlainList : List ℕ → Type 0
IsPlainList list = (list_all is_list_byte list ≡ true) × ((at : ℕ) → at < length list → IsDropAt list at → ⊥)

-- A word of a list begins at this offset: there is the list's front, or a blank before it.
abbrev pub BeginsEntry : List ℕ → ℕ → Type 0
BeginsEntry list at = (at ≡ 0) ⊎ (is_blank (slice_index list (at - 1)) ≡ true)

-- A word of a list ends at this offset: there is the list's end, or a blank.
abbrev pub EndsEntry : List ℕ → ℕ → Type 0
EndsEntry list at = (at ≡ length list) ⊎ (is_blank (slice_index list at) ≡ true)

-- The list has this word at an offset.
abbrev pub IsEntryAt : List ℕ → ℕ → List ℕ → Type 0
IsEntryAt list at word = (slice_range list at (at + length word) ≡ word) × BeginsEntry list at × EndsEntry list (at + length word)

-- The list has this word.
abbrev pub HasEntry : List ℕ → List ℕ → Type 0
HasEntry list word = (at : ℕ) × IsEntryAt list at word

-- The call looks for a header: it is AC_CHECK_HEADER or AC_CHECK_HEADERS, and its first argument is a list that has it.
pub record LooksFor (text : List ℕ) (c : MacroCall) (header : List ℕ) : Type 0 where
  pub looks : IsCallOf text looking c
  pub list : Extent
  pub first : slice_get c.args 0 ≡ Some list
  pub plain : IsPlainList (text_of (Some (arg_text text list)))
  pub has : HasEntry (text_of (Some (arg_text text list))) header

-- The call defines a name, which is its first argument.
pub record DefinesName (text : List ℕ) (c : MacroCall) (name : List ℕ) : Type 0 where
  pub defines : IsCallOf text defining c
  pub arg : Extent
  pub first : slice_get c.args 0 ≡ Some arg
  pub is : text_of (Some (arg_text text arg)) ≡ name

-- ---- what is run in any case

-- `dnl` ends at this offset: the text does, or neither a word goes on there nor a parenthesis follows.
abbrev pub EndsDrop : List ℕ → ℕ → Type 0
EndsDrop text at = (at ≡ length text) ⊎ ((is_word_byte (slice_index text at) || slice_index text at == 40) ≡ false)

-- Between these offsets is nothing but calls, comments of m4 and blanks. So what is after them is run whenever what is before them is.
pub data IsRunAfter (text : List ℕ) (calls : List MacroCall) (start : ℕ) : ℕ → Type 0 where
  begun : IsRunAfter text calls start start
  called : (c : MacroCall) → IsRunAfter text calls start c.start → Contains calls c → IsRunAfter text calls start c.end
  blank : (at : ℕ) → IsRunAfter text calls start at → is_blank (slice_index text at) ≡ true → IsRunAfter text calls start (at + 1)
  dropped : (at : ℕ) → IsRunAfter text calls start at → IsDropAt text at × EndsDrop text (at + 3) → IsRunAfter text calls start (line_end text (at + 3))

-- A call that is run whenever what ends at an offset is looks for a header.
pub record IsLookedFor (text : List ℕ) (calls : List MacroCall) (start : ℕ) (header : List ℕ) : Type 0 where
  pub call : MacroCall
  pub is_there : Contains calls call
  pub looks : LooksFor text call header
  pub run : IsRunAfter text calls start call.start

-- Each of these headers is so looked for.
unfoldable pub AreLookedFor : List ℕ → List MacroCall → ℕ → List (List ℕ) → Type 0
AreLookedFor text calls start headers = All (IsLookedFor text calls start) headers

-- A call that is run whenever what ends at an offset is defines a name.
pub record IsDefined (text : List ℕ) (calls : List MacroCall) (start : ℕ) (name : List ℕ) : Type 0 where
  pub call : MacroCall
  pub is_there : Contains calls call
  pub defines : DefinesName text call name
  pub run : IsRunAfter text calls start call.start
