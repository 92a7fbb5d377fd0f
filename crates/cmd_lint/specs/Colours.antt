-- Whether what is printed may have colours.
use Rattle.std.specs.Prelude.{ℕ, ◌==◌, ◌&&◌, not, Bool, List, length, bytes_eq, codes}
use Rattle.std.specs.List.{list_any}

-- The entry of an environment is NO_COLOR, and its value isn't empty. (no-color.org)
abbrev pub forbids_colour : List ℕ × List ℕ → Bool
forbids_colour entry = bytes_eq entry.0 (codes "NO_COLOR") && not (length entry.1 == 0)

-- What is printed on standard output, which may be a terminal, may have colours in this environment. (own)
abbrev pub may_colour : List (List ℕ × List ℕ) → Bool → Bool
may_colour environment is_terminal = is_terminal && not (list_any forbids_colour environment)
