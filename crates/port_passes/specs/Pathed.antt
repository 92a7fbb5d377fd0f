-- A call that looks for a program along a path of its own. (manual, "Generic Programs"; what is put is own)
use Rattle.std.specs.Prelude.{◌≡◌, ℕ, ◌==◌, ◌||◌, ◌&&◌, nat_lt, Bool, true, List, [], ◌∷◌, ◌++◌, length, slice_range, slice_get, Some, bytes_eq, codes}
use Rattle.std.specs.List.{list_all}
use Rattle.ac_calls.specs.Calls.{MacroCall}
use Rattle.ac_calls.specs.declared.call.Extent.{Extent}
use Rattle.port_idioms.specs.Filled.{text_of}
use Rattle.port_passes.specs.Chains.{is_value_byte}
use Rattle.port_spots.specs.Put.{arg_text, difference, is_space_or_return}

-- The fourth argument of a macro of this name is a path.
abbrev pub takes_path : List ℕ → Bool
takes_path name = bytes_eq name (codes "AC_PATH_PROG") || bytes_eq name (codes "AC_PATH_PROGS") || bytes_eq name (codes "AC_CHECK_PROGS") || bytes_eq name (codes "AC_PATH_TOOL")

-- A letter, a digit, or one of `_ - . + / : $ { }`. (own)
abbrev pub is_path_byte : ℕ → Bool
is_path_byte b = is_value_byte b || b == 36 || b == 123 || b == 125

abbrev pub is_path : List ℕ → Bool
is_path path = nat_lt 0 (length path) && list_all is_path_byte path

-- What the comment says.
unfoldable pub said : List ℕ
said = codes " PATH is set to the path of the call while the program is looked for"

-- A newline, the indent and a text.
abbrev pub line : List ℕ → List ℕ → List ℕ
line indent text = 10 ∷ indent ++ text

-- The line that sets PATH to a path.
unfoldable pub setting : List ℕ → List ℕ
setting path = ((codes "PATH=" ++ 34 ∷ []) ++ path) ++ 34 ∷ []

-- A call with this front alone.
unfoldable pub shortened : List ℕ → List ℕ
shortened front = front ++ 41 ∷ []

-- The lines that keep PATH, set it, make the call, and set PATH back, below a comment.
abbrev pub pathed_lines : List ℕ → List ℕ → List ℕ → List ℕ → List ℕ
pathed_lines indent name path front =
    (((difference name said ++ line indent (codes "acrun_PATH=$PATH")) ++ line indent (setting path)) ++ line indent (shortened front)) ++ line indent (codes "PATH=$acrun_PATH")

-- The call has four arguments, of which the last is a plain path, and these are the lines in its place: it is made without the last one.
pub record IsPathed (text : List ℕ) (c : MacroCall) (put : List ℕ) : Type 0 where
  pub macro : takes_path (slice_range text c.start c.name_end) ≡ true
  pub four : length c.args ≡ 4
  pub third : Extent
  pub fourth : Extent
  pub third_is : slice_get c.args 2 ≡ Some third
  pub fourth_is : slice_get c.args 3 ≡ Some fourth
  pub path : is_path (text_of (Some (arg_text text fourth))) ≡ true
  pub indent : List ℕ
  pub blank : list_all is_space_or_return indent ≡ true
  pub is : put ≡ pathed_lines indent (slice_range text c.start c.name_end) (text_of (Some (arg_text text fourth))) (slice_range text c.start third.end)
