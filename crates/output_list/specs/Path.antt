-- Names of outputs and of templates: paths below a directory.
use Rattle.std.specs.Prelude.{ℕ, Bool, false, not, ◌&&◌, ◌==◌, List, [], ◌∷◌, codes}
use Rattle.std.specs.List.{list_all}
use Rattle.std.specs.Str.{bytes_eq}
use Rattle.text_cut.specs.Cuts.{parts, is_blank}

-- A name within a directory: not empty, not the directory itself, not its parent. (own)
abbrev pub is_step : List ℕ → Bool
is_step [] = false
is_step (b ∷ bs) = not (bytes_eq (b ∷ bs) (codes ".")) && not (bytes_eq (b ∷ bs) (codes ".."))

-- Neither `$` nor `:` nor a space, tab or newline. (own)
abbrev pub is_path_byte : ℕ → Bool
is_path_byte b = not (b == 36) && not (b == 58) && not (is_blank b)

-- Whether the text is the path of a file below the directory: steps with a slash between two of them. (own)
unfoldable pub is_path : List ℕ → Bool
is_path path = list_all is_path_byte path && list_all is_step (parts 47 path)
