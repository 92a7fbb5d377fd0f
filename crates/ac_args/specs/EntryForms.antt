-- The kinds of entries, and the form of each. (Autoconf's manual, "Generic Headers", "Generic Functions", "Generic
-- Declarations" and "Generic Types"; which bytes an entry may have is own)
use Rattle.std.specs.Prelude.{ℕ, Bool, not, ◌&&◌, ◌||◌, ◌==◌, nat_lt, List, length}
use Rattle.std.specs.List.{list_all}
use Rattle.deftable.specs.ShellName.{is_shell_name_of}
use Rattle.text_cut.specs.Cuts.{is_blank, fields}
use Rattle.ac_tree.specs.declared.listed.Sought.{Sought}
use Rattle.ac_tree.specs.declared.listed.Listed.TheVariants.{Header, Function, Declaration}
use Rattle.ac_tree.specs.declared.listed.Sought.TheVariants.{ListEntry, «Type»}
use Rattle.ac_args.specs.Commas.{comma_entries}

-- No blank, `$`, `<`, `>`, `"`, backslash or backquote. (own)
abbrev pub is_header_byte : ℕ → Bool
is_header_byte b = not (is_blank b || b == 36 || b == 60 || b == 62 || b == 34 || b == 92 || b == 96)

-- No newline, `$`, backslash or backquote. (own)
abbrev pub is_type_byte : ℕ → Bool
is_type_byte b = not (b == 10 || b == 36 || b == 92 || b == 96)

-- The text has the form of an entry of its kind. A function and a declaration are C identifiers, which have the form of shell
-- names. (own)
abbrev pub has_form : Sought → List ℕ → Bool
has_form (ListEntry Header) text = nat_lt 0 (length text) && list_all is_header_byte text
has_form (ListEntry Function) text = is_shell_name_of text
has_form (ListEntry Declaration) text = is_shell_name_of text
has_form «Type» text = nat_lt 0 (length text) && list_all is_type_byte text

-- The entries that a text lists, whatever their form: those between blanks, or those between commas outside parentheses.
-- (Autoconf's manual, the sections of the macros; that parentheses hold commas is own)
abbrev pub split : Sought → List ℕ → List (List ℕ)
split (ListEntry Header) text = fields text
split (ListEntry Function) text = fields text
split (ListEntry Declaration) text = comma_entries text
split «Type» text = comma_entries text
