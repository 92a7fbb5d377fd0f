-- What the calls of a text become. The offsets are those of the text that is read. All of this is own.
use Rattle.std.specs.Prelude.{◌≡◌, ◌⊎◌, ℕ, ◌+◌, ◌-◌, ◌<◌, ◌≤◌, ◌==◌, ◌||◌, ◌&&◌, nat_le, not, Bool, true, false, List, [], ◌∷◌, ◌++◌, length, slice_range, slice_index, slice_get, Some, Contains, bytes_eq, codes}
use Rattle.std.specs.Char.{is_ascii_alphanumeric}
use Rattle.std.specs.List.{list_all}
use Rattle.lint_macros.specs.Around.{around}
use Rattle.lint_macros.specs.Values.{front_or}
use Rattle.ac_calls.specs.Calls.{MacroCall, calls_in}
use Rattle.ac_calls.specs.declared.call.Extent.{Extent}
use Rattle.port_idioms.specs.Filled.{ending, text_of}
use Rattle.lint_macros.specs.Entries.{entry_of}
use Rattle.lint_macros.specs.declared.text.TheConstants.{TABLE}
use Rattle.port_idioms.specs.Rows.{put_by, Differs}
use Rattle.port_idioms.specs.declared.idioms.Idioms.TheVariants.{All}
use Rattle.port_definitions.specs.Defined.{Defines, DefinesWord, IsNameAt, IsPlainUse, IsUnused, is_letter, is_of_name}
use Rattle.port_definitions.specs.Unused.{DefinesUnused}
use Rattle.port_passes.specs.Compiler.{IsBelowCompiler}
use Rattle.port_passes.specs.Exchanged.{IsExchanged}
use Rattle.port_passes.specs.Making.{IsMade, LacksVersion}
use Rattle.port_spots.specs.Put.{MayPut, arg_text, is_blank_or_return, is_c_name, is_space_or_return, difference, below}
use Rattle.port_idioms.specs.declared.idioms.Idioms.{Idioms}

-- The argument is more than blanks and a pair of brackets.
abbrev pub IsGiven : List ℕ → Extent → Type 0
IsGiven text arg = 0 < length (text_of (Some (arg_text text arg)))

-- The first argument of the call names something.
pub record NamesFiles (text : List ℕ) (c : MacroCall) : Type 0 where
  pub list : Extent
  pub first : slice_get c.args 0 ≡ Some list
  pub given : IsGiven text list

-- The call is AC_MSG_RESULT without an argument.
abbrev pub LacksResult : List ℕ → MacroCall → Type 0
LacksResult text c = (slice_range text c.start c.name_end ≡ codes "AC_MSG_RESULT") × (length c.args ≤ 0)

-- A letter, a digit, `_`, a space, a parenthesis or a star.
abbrev pub is_type_byte : ℕ → Bool
is_type_byte b = is_ascii_alphanumeric b || b == 95 || b == 32 || b == 40 || b == 41 || b == 42

-- One of the words that the name of a type of C begins with.
abbrev pub is_basic : List ℕ → Bool
is_basic word =
    bytes_eq word (codes "char") || bytes_eq word (codes "short") || bytes_eq word (codes "int") || bytes_eq word (codes "long")
    || bytes_eq word (codes "signed") || bytes_eq word (codes "unsigned") || bytes_eq word (codes "float") || bytes_eq word (codes "double")

-- A name that ends in `_t`.
abbrev pub ends_in_t : List ℕ → Bool
ends_in_t word =
    nat_le 3 (length word) && is_letter (slice_index word 0) && list_all is_of_name word
    && slice_index word (length word - 2) == 95 && slice_index word (length word - 1) == 116

-- The text before the first space.
abbrev pub first_part : List ℕ → List ℕ
first_part text = front_or text (around 32 text)

-- The text is a type, which AC_CHECK_TYPE takes for a default. Autoconf does so for a few more texts. (manual, "Generic Types")
abbrev pub is_type : List ℕ → Bool
is_type text = list_all is_type_byte text && (is_basic (first_part text) || ends_in_t (first_part text))

-- The second argument of the call is a type, with nothing after it but spaces.
pub record HasDefault (text : List ℕ) (c : MacroCall) : Type 0 where
  pub default : Extent
  pub second : slice_get c.args 1 ≡ Some default
  pub type : is_type (text_of (Some (arg_text text default))) ≡ true
  pub spaces : list_all is_type_byte (ending (arg_text text default)) ≡ true

-- The first argument of the call is such a name.
pub record NamesType (text : List ℕ) (c : MacroCall) : Type 0 where
  pub named : Extent
  pub first : slice_get c.args 0 ≡ Some named
  pub is_name : is_c_name (text_of (Some (arg_text text named))) ≡ true

-- Its arguments are a type and a default. The type is defined if it isn't there, so it is a name.
pub record TakesDefault (text : List ℕ) (c : MacroCall) : Type 0 where
  pub names : NamesType text c
  pub takes : HasDefault text c

-- The call is AC_CHECK_TYPE of a type and a default, its old form.
abbrev pub NamesDefault : List ℕ → MacroCall → Type 0
NamesDefault text c = (slice_range text c.start c.name_end ≡ codes "AC_CHECK_TYPE") × (length c.args ≡ 2) × TakesDefault text c

-- The call has to go: the table of macros doesn't have its name, or it is AC_OUTPUT of at least one file, AC_INIT without a version,
-- AC_MSG_RESULT without an argument, or AC_CHECK_TYPE with a default.
abbrev pub HasToGo : List ℕ → MacroCall → Type 0
HasToGo text c =
    (c.is_of_profile ≡ false) ⊎ ((slice_range text c.start c.name_end ≡ codes "AC_OUTPUT") × NamesFiles text c) ⊎ LacksVersion text c ⊎ LacksResult text c
    ⊎ NamesDefault text c

-- Between these offsets are the call and, around it, nothing but blanks.
abbrev pub IsAround : List ℕ → MacroCall → ℕ → ℕ → Type 0
IsAround text c start end = (start ≤ c.start) × (c.end ≤ end) × (list_all is_blank_or_return (slice_range text start c.start) ≡ true) × (list_all is_blank_or_return (slice_range text c.end end) ≡ true)

-- The call is one of AC_ARG_ENABLE or AC_ARG_WITH.
abbrev pub DeclaresOption : List ℕ → MacroCall → Type 0
DeclaresOption text c = (slice_range text c.start c.name_end ≡ codes "AC_ARG_ENABLE") ⊎ (slice_range text c.start c.name_end ≡ codes "AC_ARG_WITH")

-- Between these offsets, within the call, is the old name of AS_HELP_STRING.
abbrev pub IsOldHelp : List ℕ → MacroCall → ℕ → ℕ → Type 0
IsOldHelp text c start end = (c.start ≤ start) × (end ≤ c.end) × (slice_range text start end ≡ codes "AC_HELP_STRING")

-- A macro of this name looks for each function or header of a list.
abbrev pub looks_for_words : List ℕ → Bool
looks_for_words name =
    bytes_eq name (codes "AC_CHECK_FUNCS") || bytes_eq name (codes "AC_CHECK_HEADERS") || bytes_eq name (codes "AC_HAVE_FUNCS") || bytes_eq name (codes "AC_HAVE_HEADERS")

-- The first argument of a macro of this name is a list of words: of names that it looks for, or of files.
abbrev pub takes_words : List ℕ → Bool
takes_words name =
    looks_for_words name || bytes_eq name (codes "AC_CONFIG_FILES") || bytes_eq name (codes "AC_CONFIG_HEADERS") || bytes_eq name (codes "AC_OUTPUT")

-- A byte after which a word of a list may begin: a space, a tab, a newline, a bracket or a parenthesis.
abbrev pub is_before_word : ℕ → Bool
is_before_word b = b == 32 || b == 9 || b == 10 || b == 91 || b == 40

-- At this offset of an argument a backslash joins two lines, and no word ends right before it.
pub record IsLineJoint (text : List ℕ) (arg : Extent) (at : ℕ) : Type 0 where
  pub place : (arg.start ≤ at) × (at + 1 < arg.end)
  pub within : at + 1 < length text
  pub before : is_before_word (slice_index text (at - 1)) ≡ true
  pub backslash : slice_index text at ≡ 92
  pub newline : slice_index text (at + 1) ≡ 10

-- The call is one of a macro that takes such a list, and at this offset of the list a backslash joins two lines.
pub record JoinsWords (text : List ℕ) (c : MacroCall) (at : ℕ) : Type 0 where
  pub macro : takes_words (slice_range text c.start c.name_end) ≡ true
  pub list : Extent
  pub first : slice_get c.args 0 ≡ Some list
  pub joint : IsLineJoint text list at

-- What Autoconf puts in the place of a call of this macro ends in a newline. So a statement that follows the call on its line is on a
-- line of its own.
abbrev pub ends_its_line : List ℕ → Bool
ends_its_line name = bytes_eq name (codes "AC_DEFINE") || bytes_eq name (codes "AC_DEFINE_UNQUOTED")

-- The call is one of such a macro.
abbrev pub EndsItsLine : List ℕ → MacroCall → Type 0
EndsItsLine text c = ends_its_line (slice_range text c.start c.name_end) ≡ true

-- From the end of the call up to this offset there are only spaces, tabs and carriage returns.
abbrev pub AreSpaces : List ℕ → MacroCall → ℕ → Type 0
AreSpaces text c end = (c.end ≤ end) × (end ≤ length text) × (list_all is_space_or_return (slice_range text c.end end) ≡ true)

-- The byte is a bracket.
abbrev pub is_bracket : ℕ → Bool
is_bracket b = b == 91 || b == 93

-- The offset is in a call that begins in the argument.
pub record IsInCall (text : List ℕ) (arg : Extent) (at : ℕ) : Type 0 where
  pub call : MacroCall
  pub is_there : Contains (calls_in text) call
  pub order : (arg.start ≤ call.start) × (call.start ≤ at) × (at < call.end)

-- Up to this offset each bracket of the argument is in a call, and nothing but blanks is after it.
pub record IsBare (text : List ℕ) (arg : Extent) (end : ℕ) : Type 0 where
  pub place : (arg.start ≤ end) × (end ≤ arg.end) × (arg.end ≤ length text)
  pub plain : (at : ℕ) → arg.start ≤ at → at < end → is_bracket (slice_index text at) ≡ true → IsInCall text arg at
  pub blank : list_all is_blank_or_return (slice_range text end arg.end) ≡ true

-- A macro of this name does what its argument at this index, counted from 0, says. acrun doesn't read it, and the table has an idiom for it.
abbrev pub does_argument : List ℕ → ℕ → Bool
does_argument name index =
    ((bytes_eq name (codes "AC_TRY_COMPILE") || bytes_eq name (codes "AC_TRY_LINK") || bytes_eq name (codes "AC_EGREP_CPP") || bytes_eq name (codes "PKG_CHECK_MODULES")) && (index == 2 || index == 3))
    || (bytes_eq name (codes "AC_TRY_RUN") && (index == 1 || index == 2 || index == 3))
    || ((bytes_eq name (codes "AC_TRY_LINK_FUNC") || bytes_eq name (codes "AC_TRY_CPP")) && (index == 1 || index == 2))

-- The call is one of a macro that does what its argument at this index says.
abbrev pub DoesArgument : List ℕ → MacroCall → ℕ → Type 0
DoesArgument text c index = does_argument (slice_range text c.start c.name_end) index ≡ true

-- The same of an argument of a macro that acrun doesn't read: the calls are those of the argument's text up to this offset, read alone.
pub record IsBareAlone (text : List ℕ) (arg : Extent) (end : ℕ) : Type 0 where
  pub place : (arg.start ≤ end) × (end ≤ arg.end) × (arg.end ≤ length text)
  pub whole : Extent
  pub all : whole.start ≡ 0
  pub alone : IsBare (slice_range text arg.start end) whole (length (slice_range text arg.start end))
  pub blank : list_all is_blank_or_return (slice_range text end arg.end) ≡ true

-- A text in brackets.
abbrev pub in_brackets : List ℕ → List ℕ
in_brackets text = 91 ∷ (text ++ 93 ∷ [])

-- A shell takes what is at the place of the call for the name of a variable: the call is a name alone, and `$` or `${` is right before it,
-- or `=` right after it. (own)
pub record NamesVariable (text : List ℕ) (c : MacroCall) : Type 0 where
  pub name : c.end ≡ c.name_end
  pub unread : c.is_of_profile ≡ false
  pub place : (slice_range text (c.start - 1) c.start ≡ codes "$") ⊎ (slice_range text (c.start - 2) c.start ≡ 36 ∷ 123 ∷ []) ⊎ (slice_range text c.end (c.end + 1) ≡ codes "=")

-- What is put after AC_PROG_CC, if all idioms are wanted: a newline, some blanks, and below a comment the lines that set GCC. (own)
pub record SetsGnu (put : List ℕ) : Type 0 where
  pub it : List ℕ
  pub said : List ℕ
  pub indent : List ℕ
  pub has : put_by (entry_of (codes "GCC") TABLE.now) ≡ Some it
  pub differs : Differs (codes "GCC") 0 said
  pub blank : list_all is_space_or_return indent ≡ true
  pub is : put ≡ ((10 ∷ indent) ++ difference (codes "GCC") said) ++ below indent it []

-- What is put after AC_PROG_CC, if all idioms are wanted. (own)
pub data SetsUp (put : List ℕ) : Type 0 where
  gnu : SetsGnu put → SetsUp put
  more : IsBelowCompiler put → SetsUp put

-- A macro of this name prints a message, and does nothing else. (own)
abbrev pub is_message : List ℕ → Bool
is_message name = bytes_eq name (codes "AC_MSG_RESULT") || bytes_eq name (codes "AC_MSG_NOTICE") || bytes_eq name (codes "AC_MSG_WARN")

-- At this offset is a call of such a macro. (own)
pub record IsInMessage (text : List ℕ) (at : ℕ) : Type 0 where
  pub call : MacroCall
  pub is_there : Contains (calls_in text) call
  pub prints : is_message (slice_range text call.start call.name_end) ≡ true
  pub order : (call.start ≤ at) × (at < call.end)

-- No newline. (own)
abbrev pub is_inline : ℕ → Bool
is_inline b = not (b == 10)

-- This offset is in a line that begins with `dnl`, and so is a comment. (own)
pub record IsInComment (text : List ℕ) (at : ℕ) : Type 0 where
  pub line : ℕ
  pub before : line ≤ at
  pub newline : slice_range text (line - 1) line ≡ 10 ∷ []
  pub begins : slice_range text line (line + 4) ≡ codes "dnl "
  pub within : list_all is_inline (slice_range text line at) ≡ true

-- This offset is in a message or in a comment. (own)
pub data IsTold (text : List ℕ) (at : ℕ) : Type 0 where
  message : IsInMessage text at → IsTold text at
  comment : IsInComment text at → IsTold text at

-- No blank. (own)
abbrev pub is_shown : ℕ → Bool
is_shown b = not (is_blank_or_return b)

-- Between these offsets is nothing but messages, comments and blanks, and from the second one on nothing but blanks. (own)
pub record AreMessages (text : List ℕ) (start end : ℕ) : Type 0 where
  pub place : (start ≤ end) × (end ≤ length text)
  pub plain : (at : ℕ) → start ≤ at → at < end → is_shown (slice_index text at) ≡ true → IsTold text at
  pub rest : list_all is_blank_or_return (slice_range text end (length text)) ≡ true

-- The comment above messages that were after AC_OUTPUT. (own)
abbrev pub before_output : List ℕ
before_output = codes "dnl acrun: in place of what is printed after AC_OUTPUT: it is printed before it, where prefix and exec_prefix may be NONE"

-- The messages below this comment, and the call of AC_OUTPUT after them. (own)
abbrev pub messages_first : List ℕ → List ℕ → List ℕ
messages_first messages call = ((((before_output ++ 10 ∷ []) ++ messages) ++ 10 ∷ []) ++ call) ++ 10 ∷ []

-- One pass over the calls of a text has read so much of it, and written this. Everything is copied, with fourteen exceptions: a call that has
-- to go, with blanks around it, may be replaced by what may be put in its place; in a call that declares an option the old name of
-- AS_HELP_STRING may become the name; a backslash that joins two lines of a list of words may go; after a call that ends its line a newline
-- and an indent may be put in place of the spaces; an argument of a macro that acrun reads, which has no brackets outside the calls in it,
-- may get a pair; so may an argument of another macro that does what it says, and the name of a variable that is spelled as a macro; in the place of calls may be put others
-- that do the same; in the place of the name
-- of a macro without parameters that the source defines before, by AC_DEFUN or as a plain word, may be put its body, and the definition of one whose name
-- is nowhere after it may go; so may the definition of any macro that nothing calls; and if all idioms are wanted, the lines that set GCC and CFLAGS and look for the default headers may be put
-- after AC_PROG_CC, messages after AC_OUTPUT may be put before it, if nothing else is there, and in the place of AC_INIT and of AC_EGREP_CPP may be put what
-- is made of the text of another call or of a program.
pub data IsPass (idioms : Idioms) (text : List ℕ) : ℕ → List ℕ → Type 0 where
  begun : IsPass idioms text 0 []
  copied : {at : ℕ} {out : List ℕ} (next : ℕ) → IsPass idioms text at out → at ≤ next → next ≤ length text → IsPass idioms text next (out ++ slice_range text at next)
  replaced : {at : ℕ} {out : List ℕ} (c : MacroCall) (put : List ℕ) (end : ℕ) → IsPass idioms text at out → Contains (calls_in text) c → HasToGo text c → MayPut idioms text c put → IsAround text c at end → end ≤ length text
      → IsPass idioms text end (out ++ put)
  renamed : {at : ℕ} {out : List ℕ} (c : MacroCall) (end : ℕ) → IsPass idioms text at out → Contains (calls_in text) c → DeclaresOption text c → IsOldHelp text c at end → end ≤ length text
      → IsPass idioms text end (out ++ codes "AS_HELP_STRING")
  parted : {at : ℕ} {out : List ℕ} (c : MacroCall) → IsPass idioms text at out → Contains (calls_in text) c → JoinsWords text c at → IsPass idioms text (at + 1) out
  lined : {out : List ℕ} (c : MacroCall) (end : ℕ) (indent : List ℕ) → IsPass idioms text c.end out → Contains (calls_in text) c → EndsItsLine text c → AreSpaces text c end → list_all is_space_or_return indent ≡ true
      → IsPass idioms text end (out ++ 10 ∷ indent)
  bracketed : {out : List ℕ} (c : MacroCall) (i : ℕ) (arg : Extent) (end : ℕ) → IsPass idioms text arg.start out → Contains (calls_in text) c → c.is_of_profile ≡ true → slice_get c.args i ≡ Some arg
      → IsBare text arg end → IsPass idioms text end (out ++ in_brackets (slice_range text arg.start end))
  enclosed : {out : List ℕ} (c : MacroCall) (i : ℕ) (arg : Extent) (end : ℕ) → IsPass idioms text arg.start out → Contains (calls_in text) c → DoesArgument text c i → slice_get c.args i ≡ Some arg
      → IsBareAlone text arg end → IsPass idioms text end (out ++ in_brackets (slice_range text arg.start end))
  named : {out : List ℕ} (c : MacroCall) → IsPass idioms text c.start out → Contains (calls_in text) c → NamesVariable text c → c.end ≤ length text
      → IsPass idioms text c.end (out ++ in_brackets (slice_range text c.start c.end))
  checked : {out : List ℕ} (c : MacroCall) (put : List ℕ) → IsPass idioms text c.end out → Contains (calls_in text) c → idioms ≡ All → slice_range text c.start c.name_end ≡ codes "AC_PROG_CC" → SetsUp put → c.end ≤ length text
      → IsPass idioms text c.end (out ++ put)
  turned : {out : List ℕ} (c : MacroCall) (start end : ℕ) → IsPass idioms text c.start out → Contains (calls_in text) c → idioms ≡ All → slice_range text c.start c.name_end ≡ codes "AC_OUTPUT" → IsAround text c c.start start → AreMessages text start end
      → IsPass idioms text (length text) (out ++ messages_first (slice_range text start end) (slice_range text c.start c.end))
  made : {out : List ℕ} (c : MacroCall) (put : List ℕ) → IsPass idioms text c.start out → Contains (calls_in text) c → idioms ≡ All → IsMade text c put → c.end ≤ length text
      → IsPass idioms text c.end (out ++ put)
  exchanged : {start : ℕ} {out : List ℕ} (end : ℕ) (put : List ℕ) → IsPass idioms text start out → IsExchanged text start end put → end ≤ length text
      → IsPass idioms text end (out ++ put)
  written : {at : ℕ} {out : List ℕ} (d : MacroCall) (name body : List ℕ) → IsPass idioms text at out → Contains (calls_in text) d → Defines text d name body → d.end ≤ at → IsNameAt text at name
      → at + length name ≤ length text → IsPass idioms text (at + length name) (out ++ body)
  forgotten : {out : List ℕ} (d : MacroCall) (name body : List ℕ) → IsPass idioms text d.start out → Contains (calls_in text) d → Defines text d name body → IsUnused text d.end name
      → d.end ≤ length text → IsPass idioms text d.end out
  unused : {out : List ℕ} (d : MacroCall) (name : List ℕ) → IsPass idioms text d.start out → Contains (calls_in text) d → DefinesUnused text d name → d.end ≤ length text
      → IsPass idioms text d.end out
  substituted : {at : ℕ} {out : List ℕ} (start end : ℕ) (name word : List ℕ) → IsPass idioms text at out → DefinesWord text start end name word → end ≤ at → IsPlainUse text at name
      → at + length name ≤ length text → IsPass idioms text (at + length name) (out ++ word)
  undefined : {start : ℕ} {out : List ℕ} (end : ℕ) (name word : List ℕ) → IsPass idioms text start out → DefinesWord text start end name word → IsUnused text end name
      → end ≤ length text → IsPass idioms text end out

-- The one text becomes the other by passes over its calls, each of which reads what the one before it wrote.
pub data IsRewritten (idioms : Idioms) : List ℕ → List ℕ → Type 0 where
  same : {text : List ℕ} → IsRewritten idioms text text
  passed : {text mid out : List ℕ} → IsRewritten idioms text mid → IsPass idioms mid (length mid) out → IsRewritten idioms text out
