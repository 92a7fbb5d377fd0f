-- The names that the template of a header lists.
use Rattle.std.specs.Prelude.{ℕ, ◌==◌, ◌&&◌, ◌||◌, bytes_eq, Bool, true, List, [], ◌∷◌, length, drop, flat_map, Option, Some, None, option_and_then, codes, if◌then◌else◌}
use Rattle.bstr.specs.Text.{lines_of}
use Rattle.deftable.specs.ShellName.{is_shell_name_of}
use Rattle.lint_text.specs.Parts.{after_blanks, first_name}
use Rattle.lint_templates.specs.Names.{with_all}

-- The text after the `#` at the front, or none if it begins with another byte. (own)
abbrev pub after_hash : List ℕ → Option (List ℕ)
after_hash [] = None
after_hash (b ∷ text) = if b == 35 then Some text else None

-- The word is `undef`, or `define` if that counts. (Autoconf's manual, "Header Templates"; that `define` may count is own)
abbrev pub is_listing : Bool → List ℕ → Bool
is_listing takes_define word = bytes_eq word (codes "undef") || takes_define && bytes_eq word (codes "define")

-- The text, if it begins with a name that has the form of one. (own)
abbrev pub named : List ℕ → Option (List ℕ)
named text = if is_shell_name_of (first_name text) then Some text else None

-- The text from the name on, after a word that lists it and spaces and tabs. (Autoconf's manual, "Header Templates")
abbrev pub after_word : Bool → List ℕ → Option (List ℕ)
after_word takes_define text =
    if is_listing takes_define (first_name text) then named (after_blanks (drop (length (first_name text)) text)) else None

-- The text of a line from the name on that it lists: spaces and tabs, `#`, spaces and tabs, and a word that lists it. (Autoconf's manual,
-- "Header Templates")
unfoldable pub from_name : Bool → List ℕ → Option (List ℕ)
from_name takes_define line = option_and_then (λ text. after_word takes_define (after_blanks text)) (after_hash (after_blanks line))

-- The name that a text begins with, if there is one. (own)
abbrev pub name_of : Option (List ℕ) → List (List ℕ)
name_of None = []
name_of (Some text) = first_name text ∷ []

-- The name that a line lists, if it lists one. (own)
abbrev pub name_in : Bool → List ℕ → List (List ℕ)
name_in takes_define line = name_of (from_name takes_define line)

-- The names with those added that the lines of a template list, with `undef` or with `define`. (own)
unfoldable pub with_listed : List (List ℕ) → List ℕ → List (List ℕ)
with_listed names text = with_all names (flat_map (name_in true) (lines_of text))
