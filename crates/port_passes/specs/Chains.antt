-- AC_PATH_PROGS without a path, as the calls of AC_PATH_PROG that it is made of. (manual, "Generic Programs"; that it is the same is own)
use Rattle.std.specs.Prelude.{◌≡◌, ℕ, ◌≤◌, ◌==◌, ◌||◌, Bool, true, List, [], ◌∷◌, ◌++◌, length, slice_range, slice_get, option_map, Some, codes, if◌then◌else◌}
use Rattle.std.specs.Char.{is_ascii_alphanumeric}
use Rattle.std.specs.List.{flat_map, list_all}
use Rattle.text_cut.specs.Cuts.{fields}
use Rattle.ac_calls.specs.Calls.{MacroCall}
use Rattle.ac_calls.specs.declared.call.Extent.{Extent}
use Rattle.port_idioms.specs.Filled.{text_of}
use Rattle.port_spots.specs.Put.{arg_text, is_c_name, is_space_or_return}

-- A byte of the name of a program: a letter, a digit, or one of `_ - . +`. (own)
abbrev pub is_program_byte : ℕ → Bool
is_program_byte b = is_ascii_alphanumeric b || b == 95 || b == 45 || b == 46 || b == 43

-- The same, or `/` or `:`. (own)
abbrev pub is_value_byte : ℕ → Bool
is_value_byte b = is_program_byte b || b == 47 || b == 58

abbrev pub is_program : List ℕ → Bool
is_program word = list_all is_program_byte word

-- The call that looks for a program, up to the variable, and the rest of it.
unfoldable pub program_front : List ℕ → List ℕ
program_front name = codes "AC_PATH_PROG([" ++ name

unfoldable pub program_rest : List ℕ → List ℕ
program_rest word = (codes "], [" ++ word) ++ codes "])"

abbrev pub path_prog : List ℕ → List ℕ → List ℕ
path_prog name word = program_front name ++ program_rest word

-- What is before the statement that is done if a variable is empty.
unfoldable pub if_empty : List ℕ → List ℕ
if_empty name = (codes "AS_IF([test -z " ++ (34 ∷ 36 ∷ name)) ++ (34 ∷ codes "], [")

-- A line that looks for the next program if none was found so far.
unfoldable pub next_program : List ℕ → List ℕ → List ℕ → List ℕ
next_program indent name word = ((10 ∷ indent) ++ if_empty name) ++ (path_prog name word ++ codes "])")

-- A line that sets the variable if no program was found.
unfoldable pub last_value : List ℕ → List ℕ → List ℕ → List ℕ
last_value indent name value = (((10 ∷ indent) ++ if_empty name) ++ ((name ++ 61 ∷ 34 ∷ []) ++ value)) ++ (34 ∷ codes "])")

-- The same if there is a value.
abbrev pub value_line : List ℕ → List ℕ → List ℕ → List ℕ
value_line indent name value = if length value == 0 then [] else last_value indent name value

-- One line for each program, and one for the value.
unfoldable pub chain : List ℕ → List ℕ → List ℕ → List (List ℕ) → List ℕ → List ℕ
chain indent name word more value = (path_prog name word ++ flat_map (next_program indent name) more) ++ value_line indent name value

-- The text has the lines for these programs, which are plain names.
pub record IsChainOf (indent name : List ℕ) (words : List (List ℕ)) (value put : List ℕ) : Type 0 where
  pub word : List ℕ
  pub more : List (List ℕ)
  pub are : words ≡ word ∷ more
  pub plain : list_all is_program words ≡ true
  pub is : put ≡ chain indent name word more value

-- The text of the third argument, or nothing.
abbrev pub value_of : List ℕ → MacroCall → List ℕ
value_of text c = text_of (option_map (arg_text text) (slice_get c.args 2))

-- The call is AC_PATH_PROGS of a variable and plain names of programs, perhaps with a plain value, and this is the chain of it.
pub record IsChain (text : List ℕ) (c : MacroCall) (put : List ℕ) : Type 0 where
  pub macro : slice_range text c.start c.name_end ≡ codes "AC_PATH_PROGS"
  pub three : length c.args ≤ 3
  pub variable : Extent
  pub programs : Extent
  pub first : slice_get c.args 0 ≡ Some variable
  pub second : slice_get c.args 1 ≡ Some programs
  pub indent : List ℕ
  pub name : is_c_name (text_of (Some (arg_text text variable))) ≡ true
  pub value : list_all is_value_byte (value_of text c) ≡ true
  pub blank : list_all is_space_or_return indent ≡ true
  pub is : IsChainOf indent (text_of (Some (arg_text text variable))) (fields (text_of (Some (arg_text text programs)))) (value_of text c) put
