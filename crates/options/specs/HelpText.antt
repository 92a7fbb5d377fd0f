-- The help text of a source, in a layout of this project's own.
use Rattle.std.specs.Prelude.{ℕ, ◌-◌, Bool, false, List, [], ◌∷◌, ◌++◌, length, nat_lt, codes, if◌then◌else◌}
use Rattle.std.specs.List.{flat_map}
use Rattle.std.proofs.Math.ListN.{replicate}
use Rattle.text_cut.specs.Cuts.{is_blank}
use Rattle.ac_tree.specs.declared.help.Help.{Help}
use Rattle.ac_tree.specs.declared.help.Help.TheVariants.{Columns, Text}

-- A byte of a text in which each run of blanks becomes one space, after a blank or not. (own)
abbrev pub squeezed_byte : Bool → ℕ → List ℕ
squeezed_byte blank b = if is_blank b then (if blank then [] else 32 ∷ []) else b ∷ []

-- The text with each run of blanks made one space, after a blank or not. (own)
unfoldable pub squeezed_after : Bool → List ℕ → List ℕ
squeezed_after blank [] = []
squeezed_after blank (b ∷ bs) = squeezed_byte blank b ++ squeezed_after (is_blank b) bs

-- The text with each run of blanks made one space, also at its ends. (own)
abbrev pub squeezed : List ℕ → List ℕ
squeezed text = squeezed_after false text

-- n spaces. (own)
abbrev pub spaces : ℕ → List ℕ
spaces n = replicate n 32

-- The gap between a left text of n bytes and the right text, which begins at column 27: spaces, after a newline if the
-- left text has more than 23 bytes. (own)
unfoldable pub gap : ℕ → List ℕ
gap n = if nat_lt 23 n then codes "\n" ++ spaces 26 else spaces (24 - n)

-- The lines of an option or a variable. (own)
unfoldable pub entry_lines : List ℕ → List ℕ → List ℕ
entry_lines left right = codes "  " ++ left ++ gap (length left) ++ squeezed right ++ codes "\n"

-- The line of a plain text; an empty one has none. (own)
abbrev pub plain_lines : List ℕ → List ℕ
plain_lines [] = []
plain_lines (b ∷ bs) = (b ∷ bs) ++ codes "\n"

-- The lines of one option or variable. (own)
abbrev pub help_lines : Help → List ℕ
help_lines (Columns left right) = entry_lines left right
help_lines (Text plain) = plain_lines plain

-- The usage, and the lines of the entries in order. (own)
unfoldable pub help_text : List Help → List ℕ
help_text entries = codes "Usage: configure [OPTION]... [VAR=VALUE]...\n" ++ flat_map help_lines entries
