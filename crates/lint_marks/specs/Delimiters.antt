-- The delimiter of a here-document: a word, without its quotes. (POSIX shell, 2.7.4 and 2.6.7)
use Rattle.std.specs.Prelude.{ℕ, Bool, ◌&&◌, ◌||◌, not, List, [], ◌∷◌, ◌++◌, drop, ◌==◌, if◌then◌else◌}
use Rattle.std.specs.List.{prefix_len}
use Rattle.m4quote.specs.Text.{open_bracket, close_bracket}
use Rattle.shellword.specs.Text.{backslash, single_quote, double_quote, newline, begins_with}
pub use Rattle.text_cut.specs.Cuts.{is_space}
use Rattle.shell_bare.specs.Text.{is_part_end}
use Rattle.lint_marks.specs.declared.delimiter.DelimiterPart.{DelimiterPart}
use Rattle.lint_marks.specs.declared.delimiter.DelimiterPart.TheVariants.{Bare, Escaped, Single, Double}

-- `<`. (POSIX shell, 2.7)
abbrev pub less : ℕ
less = 60

-- `-`. (POSIX shell, 2.7.4)
abbrev pub dash : ℕ
dash = 45

-- A byte of an operator, which ends a word. (POSIX shell, 2.3)
abbrev pub is_operator : ℕ → Bool
is_operator b = b == less || b == 62 || b == 38 || b == 124 || b == 40 || b == 41

-- A quote or a backslash. (POSIX shell, 2.2)
abbrev pub is_quote : ℕ → Bool
is_quote b = b == single_quote || b == double_quote || b == backslash

-- A bracket, which is m4's. (own)
abbrev pub is_bracket : ℕ → Bool
is_bracket b = b == open_bracket || b == close_bracket

-- The byte is after the delimiter: outside quotes it ends a word. (POSIX shell, 2.3; that a newline ends it in any case
-- is own)
abbrev pub is_after : DelimiterPart → ℕ → Bool
is_after Bare b = is_part_end b || is_operator b
is_after Escaped b = b == newline
is_after Single b = b == newline
is_after Double b = b == newline

-- The byte is one of the delimiter, and no quote. (POSIX shell, 2.6.7; brackets are m4's)
abbrev pub is_kept : DelimiterPart → ℕ → Bool
is_kept Bare b = not (is_quote b) && not (is_bracket b)
is_kept Escaped b = not (is_bracket b)
is_kept Single b = not (b == single_quote) && not (is_bracket b)
is_kept Double b = not (b == double_quote) && not (is_bracket b)

-- What is open outside quotes after a byte. (POSIX shell, 2.2)
abbrev pub after_bare : ℕ → DelimiterPart
after_bare b = if b == single_quote then Single else (if b == double_quote then Double else (if b == backslash then Escaped else Bare))

-- What is open after a byte. (POSIX shell, 2.2; that a backslash in double quotes quotes nothing is own)
abbrev pub part_after : DelimiterPart → ℕ → DelimiterPart
part_after Bare b = after_bare b
part_after Escaped b = Bare
part_after Single b = if b == single_quote then Bare else Single
part_after Double b = if b == double_quote then Bare else Double

-- What a byte gives to the delimiter. (own)
abbrev pub kept : DelimiterPart → ℕ → List ℕ
kept part b = if is_kept part b then b ∷ [] else []

-- The rest of a delimiter, from a place on that is in this. (POSIX shell, 2.7.4 and 2.6.7)
unfoldable pub delimiter_in : DelimiterPart → List ℕ → List ℕ
delimiter_in part [] = []
delimiter_in part (b ∷ bs) = if is_after part b then [] else kept part b ++ delimiter_in (part_after part b) bs

-- The word that a text begins with, without its quotes. (POSIX shell, 2.6.7)
abbrev pub unquoted : List ℕ → List ℕ
unquoted text = delimiter_in Bare text

-- The text after `<<` without the `-`. (POSIX shell, 2.7.4)
abbrev pub after_dash : List ℕ → List ℕ
after_dash text = if begins_with dash text then drop 1 text else text

-- The text without blanks at its front. (own)
abbrev pub after_blanks : List ℕ → List ℕ
after_blanks text = drop (prefix_len is_space text) text

-- The delimiter in a text after `<<`, or nothing. (POSIX shell, 2.7.4)
abbrev pub delimiter : List ℕ → List ℕ
delimiter text = unquoted (after_blanks (after_dash text))
