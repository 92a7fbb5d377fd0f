-- What is put in the place of a call.
use Rattle.std.specs.Prelude.{◌≡◌, ◌⊎◌, ℕ, suc, ◌==◌, nat_eq, ◌||◌, ◌&&◌, nat_le, Bool, true, false, List, [], ◌∷◌, ◌++◌, length, map, slice_index, Option, Some, bytes_eq, codes, if◌then◌else◌}
use Rattle.std.specs.List.{flat_map, list_all, starts_with}
use Rattle.text_cut.specs.Cuts.{fields, parts, trimmed}
pub use Rattle.text_cut.specs.Cuts.{is_space_or_return, is_blank_or_return}
use Rattle.lint_macros.specs.Entries.{entry_of}
use Rattle.lint_macros.specs.Members.{entry_name, takes_list}
use Rattle.lint_macros.specs.declared.text.TheConstants.{TABLE}
use Rattle.port_idioms.specs.Filled.{filled, text_of}
use Rattle.port_idioms.specs.Rows.{put_by, IsExact, Differs}
use Rattle.port_idioms.specs.declared.idioms.Idioms.{Idioms}
use Rattle.port_idioms.specs.declared.idioms.Idioms.TheVariants.{Exact, All}
use Rattle.ac_calls.specs.Calls.{MacroCall}
use Rattle.ac_calls.specs.declared.call.Extent.{Extent}
use Rattle.lint_text.specs.Parts.{part}
pub use Rattle.port_definitions.specs.Defined.{arg_text}
use Rattle.port_definitions.specs.Defined.{is_letter, is_of_name}

-- The number of arguments that are given: none, if the only one has nothing but blanks. To m4 that is the same. (own)
abbrev pub count_of : List ℕ → List Extent → ℕ
count_of text [] = 0
count_of text (arg ∷ []) = if length (trimmed (arg_text text arg)) == 0 then 0 else 1
count_of text (arg ∷ next ∷ more) = suc (suc (length more))

-- The name that the table of macros has for AC_INIT with so many arguments: without any, or with a file. (own)
abbrev pub init_name : ℕ → List ℕ
init_name count = if count == 0 then codes "AC_INIT()" else codes "AC_INIT(file)"

-- The name that the table of macros has for a macro that acrun reads: AC_INIT or AC_MSG_RESULT with so many arguments, AC_CHECK_TYPE with a
-- default, or AC_OUTPUT with files. (own)
abbrev pub read_as : List ℕ → ℕ → List ℕ
read_as name count =
    if bytes_eq name (codes "AC_INIT") then init_name count
    else if bytes_eq name (codes "AC_MSG_RESULT") then codes "AC_MSG_RESULT()"
    else if bytes_eq name (codes "AC_CHECK_TYPE") then codes "AC_CHECK_TYPE(default)"
    else codes "AC_OUTPUT(files)"

-- The same for a call. (own)
abbrev pub read_name : List ℕ → MacroCall → List ℕ
read_name text c = read_as (part text c.start c.name_end) (count_of text c.args)

-- The argument is the name of a macro of Automake, or begins with it. (own)
abbrev pub is_of_automake : List ℕ → Bool
is_of_automake arg = starts_with nat_eq arg (codes "[AM_") || starts_with nat_eq arg (codes "AM_")

-- The first argument is such a name. (own)
abbrev pub asks_automake : List ℕ → List Extent → Bool
asks_automake text [] = false
asks_automake text (arg ∷ more) = is_of_automake (arg_text text arg)

-- The call asks by m4_ifdef whether there is such a macro. (own)
abbrev pub is_ifdef : List ℕ → MacroCall → Bool
is_ifdef text c = bytes_eq (part text c.start c.name_end) (codes "m4_ifdef") && asks_automake text c.args

-- The argument is `main`, in brackets or without. (own)
abbrev pub is_main : List ℕ → Bool
is_main arg = bytes_eq (trimmed arg) (codes "[main]") || bytes_eq (trimmed arg) (codes "main")

-- The first argument is `main`. (own)
abbrev pub asks_main : List ℕ → List Extent → Bool
asks_main text [] = false
asks_main text (arg ∷ more) = is_main (arg_text text arg)

-- The call asks by AC_TRY_LINK_FUNC for `main`, which Autoconf calls without a declaration. (own)
abbrev pub links_main : List ℕ → MacroCall → Bool
links_main text c = bytes_eq (part text c.start c.name_end) (codes "AC_TRY_LINK_FUNC") && asks_main text c.args

-- The name that the table of macros has for a call: of macros that acrun reads, of m4_ifdef, and of AC_TRY_LINK_FUNC of `main`, it says
-- what they have. For another macro it depends on the number of arguments. (own)
abbrev pub row_name : List ℕ → MacroCall → List ℕ
row_name text c =
    if c.is_of_profile then read_name text c
    else if is_ifdef text c then codes "m4_ifdef(AM)"
    else if links_main text c then codes "AC_TRY_LINK_FUNC(main)"
    else entry_name (part text c.start c.name_end) (length c.args)

-- What the table of macros puts in the place of a call: the text of an idiom, or nothing if the call has no meaning. (own)
unfoldable pub put_for : List ℕ → MacroCall → Option (List ℕ)
put_for text c = put_by (entry_of (row_name text c) TABLE.now)

-- A macro of C, or a variable of a shell, may have this name.
abbrev pub is_c_name : List ℕ → Bool
is_c_name word = nat_le 1 (length word) && is_letter (slice_index word 0) && list_all is_of_name word

-- Nothing, or the command `:`, which does nothing. (own)
abbrev pub DoesNothing : List ℕ → Type 0
DoesNothing put = (put ≡ []) ⊎ (put ≡ codes ":")

-- A line of a text as a comment, with a newline and the indent after it. (own)
abbrev pub comment_line : List ℕ → List ℕ → List ℕ
comment_line indent line = codes "dnl " ++ (line ++ 10 ∷ indent)

-- The lines of a text as comments. (own)
unfoldable pub comment_of : List ℕ → List ℕ → List ℕ
comment_of indent text = flat_map (comment_line indent) (parts 10 text)

-- The call says something to readers alone: this text, its first argument. (own)
pub record Says (text : List ℕ) (c : MacroCall) (said : List ℕ) : Type 0 where
  pub macro : (bytes_eq (row_name text c) (codes "AC_COPYRIGHT") || bytes_eq (row_name text c) (codes "AC_REVISION")) ≡ true
  pub arg : Extent
  pub more : List Extent
  pub first : c.args ≡ arg ∷ more
  pub is : said ≡ text_of (Some (arg_text text arg))

-- What may be put in the place of a call: the idiom that the table has for it, with the call's own arguments and some blanks as the
-- indent; or, if the table puts nothing there, nothing, or `:`, or what the call says to readers, as a comment, perhaps with a `:` after
-- it. A newline and blanks may follow. (own)
pub data IsPut (text : List ℕ) (c : MacroCall) : List ℕ → Type 0 where
  idiom : (it indent : List ℕ) → put_for text c ≡ Some it → list_all is_space_or_return indent ≡ true → IsPut text c (filled (map (arg_text text) c.args) indent it)
  dropped : (put : List ℕ) → put_for text c ≡ Some [] → DoesNothing put → IsPut text c put
  kept : (said indent : List ℕ) → put_for text c ≡ Some [] → Says text c said → list_all is_space_or_return indent ≡ true → IsPut text c (comment_of indent said)
  idle : (said indent : List ℕ) → put_for text c ≡ Some [] → Says text c said → list_all is_space_or_return indent ≡ true → IsPut text c (comment_of indent said ++ 58 ∷ [])
  lined : (put indent : List ℕ) → IsPut text c put → list_all is_space_or_return indent ≡ true → IsPut text c (put ++ 10 ∷ indent)

-- The idiom of the call, or that it has no meaning, is exact for so many arguments as it has. (own)
abbrev pub IsExactFor : List ℕ → MacroCall → Type 0
IsExactFor text c = IsExact (row_name text c) (count_of text c.args)

-- ---- idioms that differ

-- The arguments of the calls with one name each that do together what the call with a list does. (own)
abbrev pub each_of : List (List ℕ) → List (List (List ℕ))
each_of [] = []
each_of (list ∷ more) = map (λ name. name ∷ more) (parts 44 (text_of (Some list)))

-- The same for a list of words. (own)
abbrev pub each_word : List (List ℕ) → List (List (List ℕ))
each_word [] = []
each_word (list ∷ more) = map (λ name. name ∷ more) (fields (text_of (Some list)))

-- The first argument of the macro is a list of words, and its idiom is written once with each. (own)
abbrev pub writes_each_word : List ℕ → Bool
writes_each_word name = bytes_eq name (codes "AC_REPLACE_FUNCS")

-- The arguments that the idiom is written with, once with each of these. (own)
abbrev pub written_with : Bool → List (List ℕ) → List (List (List ℕ))
written_with true args = each_of args
written_with false args = args ∷ []

-- The same for a macro of which the first argument may be a list of words. (own)
abbrev pub written_as : Bool → Bool → List (List ℕ) → List (List (List ℕ))
written_as true is_list args = each_word args
written_as false is_list args = written_with is_list args

-- The line of comment above an idiom in the place of this macro: its name, and in what the idiom differs. (own)
unfoldable pub difference : List ℕ → List ℕ → List ℕ
difference name said = codes "dnl acrun: in place of " ++ name ++ 58 ∷ said

-- An idiom after a newline and the indent. (own)
abbrev pub below : List ℕ → List ℕ → List (List ℕ) → List ℕ
below indent it args = 10 ∷ indent ++ filled args indent it

-- The comment, and below it the idiom, once with each of these arguments. (own)
unfoldable pub noted : List ℕ → List ℕ → List ℕ → List (List (List ℕ)) → List ℕ
noted comment indent it calls = comment ++ flat_map (below indent it) calls

-- What may be put in the place of a call below a comment: the idiom that the table has for it, though it differs from the macro, with
-- the call's own arguments and some blanks as the indent; it is empty if the table puts nothing there. The comment says in what it
-- differs. What the call says to readers may follow, as a comment, and so may a newline and blanks. If the table puts nothing there, the
-- command `:` may follow. (own)
pub data IsNoted (text : List ℕ) (c : MacroCall) : List ℕ → Type 0 where
  idiom : (it indent said : List ℕ) → put_for text c ≡ Some it → list_all is_space_or_return indent ≡ true → Differs (row_name text c) (count_of text c.args) said
      → IsNoted text c (noted (difference (row_name text c) said) indent it (written_as (writes_each_word (row_name text c)) (takes_list (row_name text c)) (map (arg_text text) c.args)))
  kept : (put said indent : List ℕ) → IsNoted text c put → put_for text c ≡ Some [] → Says text c said → list_all is_space_or_return indent ≡ true → IsNoted text c (put ++ comment_of indent said)
  lined : (put indent : List ℕ) → IsNoted text c put → list_all is_space_or_return indent ≡ true → IsNoted text c (put ++ 10 ∷ indent)
  idle : (put : List ℕ) → IsNoted text c put → put_for text c ≡ Some [] → IsNoted text c (put ++ 58 ∷ [])

-- What may be put in the place of a call: what is exact, and if all idioms are wanted, also an idiom that differs, below its comment.
-- (own)
unfoldable pub MayPut : Idioms → List ℕ → MacroCall → List ℕ → Type 0
MayPut Exact text c put = IsPut text c put × IsExactFor text c
MayPut All text c put = (IsPut text c put × IsExactFor text c) ⊎ IsNoted text c put
