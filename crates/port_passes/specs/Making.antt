-- What is put in the place of a call if all idioms are wanted, and depends on the text of another call or of a program. All of this is own.
use Rattle.std.specs.Prelude.{◌≡◌, ℕ, ◌-◌, ◌≤◌, ◌==◌, ◌||◌, ◌&&◌, nat_lt, Bool, true, List, [], ◌∷◌, ◌++◌, length, map, slice_range, slice_index, slice_get, Some, Contains, codes, if◌then◌else◌}
use Rattle.std.specs.Char.{is_ascii_alphanumeric}
use Rattle.std.specs.List.{list_all}
use Rattle.ac_calls.specs.Calls.{MacroCall, calls_in}
use Rattle.ac_calls.specs.declared.call.Extent.{Extent}
use Rattle.lint_macros.specs.Entries.{entry_of}
use Rattle.lint_macros.specs.declared.text.TheConstants.{TABLE}
use Rattle.port_idioms.specs.Filled.{text_of}
use Rattle.port_idioms.specs.Rows.{put_by, Differs}
use Rattle.port_definitions.specs.Defined.{is_of_name}
use Rattle.port_passes.specs.Pathed.{IsPathed}
use Rattle.port_spots.specs.Put.{arg_text, count_of, difference, below, is_space_or_return, is_blank_or_return}

-- The call is AC_INIT with at most one argument, so that it names no version.
abbrev pub LacksVersion : List ℕ → MacroCall → Type 0
LacksVersion text c = (slice_range text c.start c.name_end ≡ codes "AC_INIT") × (length c.args ≤ 1)

-- ---- a name and a version for AC_INIT

-- A letter, a digit, or one of `_ . - + ~`.
abbrev pub is_title_byte : ℕ → Bool
is_title_byte b = is_ascii_alphanumeric b || b == 95 || b == 46 || b == 45 || b == 43 || b == 126

-- A plain word.
abbrev pub is_title : List ℕ → Bool
is_title word = nat_lt 0 (length word) && list_all is_title_byte word

-- The call is AM_INIT_AUTOMAKE, and these are its first two arguments, plain words: the name of the package and its version.
pub record NamesPackage (text : List ℕ) (c : MacroCall) (name version : Extent) : Type 0 where
  pub macro : slice_range text c.start c.name_end ≡ codes "AM_INIT_AUTOMAKE"
  pub first : slice_get c.args 0 ≡ Some name
  pub second : slice_get c.args 1 ≡ Some version
  pub name_is : is_title (text_of (Some (arg_text text name))) ≡ true
  pub version_is : is_title (text_of (Some (arg_text text version))) ≡ true

-- The name that the table of macros has for AC_INIT that gets a name and a version: without a file, or with one.
abbrev pub titled_row : ℕ → List ℕ
titled_row count = if count == 0 then codes "AC_INIT(package)" else codes "AC_INIT(package,file)"

-- What is put in the place of AC_INIT: below a comment the idiom with the name and the version of a call of AM_INIT_AUTOMAKE, and with the
-- file of AC_INIT.
pub record IsTitled (text : List ℕ) (c : MacroCall) (put : List ℕ) : Type 0 where
  pub other : MacroCall
  pub is_there : Contains (calls_in text) other
  pub name : Extent
  pub version : Extent
  pub names : NamesPackage text other name version
  pub it : List ℕ
  pub said : List ℕ
  pub indent : List ℕ
  pub has : put_by (entry_of (titled_row (count_of text c.args)) TABLE.now) ≡ Some it
  pub differs : Differs (titled_row (count_of text c.args)) 0 said
  pub blank : list_all is_space_or_return indent ≡ true
  pub is : put ≡ difference (codes "AC_INIT") said ++ below indent it (arg_text text name ∷ arg_text text version ∷ map (arg_text text) c.args)

-- ---- a word that is searched for in what the preprocessor leaves

-- One word of these.
abbrev pub is_name : List ℕ → Bool
is_name word = nat_lt 0 (length word) && list_all is_of_name word

-- A program that is one line if a symbol is defined, and empty otherwise, with this after it.
abbrev pub tested : List ℕ → List ℕ → List ℕ → List ℕ
tested symbol word rest = codes "#ifdef " ++ symbol ++ 10 ∷ word ++ 10 ∷ codes "#endif" ++ rest

-- The same with an error if the symbol is not defined, in brackets.
abbrev pub with_error : List ℕ → List ℕ → List ℕ
with_error symbol rest = 91 ∷ codes "#ifdef " ++ symbol ++ 10 ∷ codes "#else" ++ 10 ∷ codes "#error none" ++ 10 ∷ codes "#endif" ++ rest ++ 93 ∷ []

-- The program has the word if a symbol is defined, and nothing else. This one has an error if it is not.
pub record IsTest (program word made : List ℕ) : Type 0 where
  pub symbol : List ℕ
  pub rest : List ℕ
  pub named : is_name symbol ≡ true
  pub plain : is_name word ≡ true
  pub blank : list_all is_blank_or_return rest ≡ true
  pub is : program ≡ tested symbol word rest
  pub made_is : made ≡ with_error symbol rest

-- A pattern begins with `^` and ends in `$`, so that it is that of a whole line.
abbrev pub is_anchored : List ℕ → Bool
is_anchored pattern = nat_lt 2 (length pattern) && slice_index pattern 0 == 94 && slice_index pattern (length pattern - 1) == 36

-- The word of such a pattern, or the pattern.
abbrev pub word_of : List ℕ → List ℕ
word_of pattern = if is_anchored pattern then slice_range pattern 1 (length pattern - 1) else pattern

-- The first two arguments of the call are a pattern and a program, which has the word of the pattern if a symbol is defined.
pub record IsSearch (text : List ℕ) (c : MacroCall) (made : List ℕ) : Type 0 where
  pub word : Extent
  pub program : Extent
  pub first : slice_get c.args 0 ≡ Some word
  pub second : slice_get c.args 1 ≡ Some program
  pub test : IsTest (text_of (Some (arg_text text program))) (word_of (text_of (Some (arg_text text word)))) made

-- What is put in the place of AC_EGREP_CPP of a word and a program: below a comment the idiom with that program and the actions of the call.
pub record IsSought (text : List ℕ) (c : MacroCall) (put : List ℕ) : Type 0 where
  pub program : List ℕ
  pub search : IsSearch text c program
  pub it : List ℕ
  pub said : List ℕ
  pub indent : List ℕ
  pub has : put_by (entry_of (codes "AC_EGREP_CPP(symbol)") TABLE.now) ≡ Some it
  pub differs : Differs (codes "AC_EGREP_CPP(symbol)") (count_of text c.args) said
  pub blank : list_all is_space_or_return indent ≡ true
  pub is : put ≡ difference (codes "AC_EGREP_CPP") said ++ below indent it (program ∷ map (arg_text text) (slice_range c.args 2 (length c.args)))

-- What may be put in the place of such a call.
pub data IsMade (text : List ℕ) (c : MacroCall) (put : List ℕ) : Type 0 where
  titled : LacksVersion text c → IsTitled text c put → IsMade text c put
  sought : slice_range text c.start c.name_end ≡ codes "AC_EGREP_CPP" → IsSought text c put → IsMade text c put
  pathed : IsPathed text c put → IsMade text c put
