-- Here-documents: texts that a shell reads from lines after a command. (POSIX shell, 2.7.4)
use Rattle.std.specs.Prelude.{ℕ, ◌+◌, ◌-◌, min, Bool, true, ◌&&◌, not, List, [], ◌∷◌, length, take, drop, ◌==◌, if◌then◌else◌}
use Rattle.std.specs.List.{prefix_len}
use Rattle.std.specs.Str.{bytes_eq}
use Rattle.m4quote.specs.Text.{line_len, whole_line_len}
use Rattle.shellword.specs.Text.{newline, begins_with}
use Rattle.lint_marks.specs.Delimiters.{less, dash, delimiter}
use Rattle.lint_marks.specs.declared.heres.HereTexts.{HereTexts}

-- A tab. (POSIX shell, 2.7.4)
abbrev pub is_tab : ℕ → Bool
is_tab b = b == 9

-- A line without the tabs at its front, if they mean nothing. (POSIX shell, 2.7.4)
abbrev pub without_tabs : Bool → List ℕ → List ℕ
without_tabs drops_tabs line = if drops_tabs then drop (prefix_len is_tab line) line else line

-- The first line of a text is the delimiter. (POSIX shell, 2.7.4)
abbrev pub is_delimiter : Bool → List ℕ → List ℕ → Bool
is_delimiter drops_tabs word text = bytes_eq (without_tabs drops_tabs (take (line_len text) text)) word

-- The length of a here-document, with the line of its delimiter, if a line begins or not. Without such a line it is the
-- whole text. (POSIX shell, 2.7.4)
abbrev pub here_len : Bool → List ℕ → Bool → List ℕ → ℕ
here_len drops_tabs word begins [] = 0
here_len drops_tabs word begins (b ∷ bs) =
    if begins && is_delimiter drops_tabs word (b ∷ bs) then whole_line_len (b ∷ bs)
    else 1 + here_len drops_tabs word (b == newline) bs

-- No here-document is to come. (own)
abbrev pub none_here : HereTexts
none_here = record { until = 0; end = 0 }

-- The place is in a here-document. (own)
abbrev pub is_here : HereTexts → Bool
is_here h = h.until == 0 && not (h.end == 0)

-- The text begins with `<<`. (POSIX shell, 2.7.4)
abbrev pub begins_here : List ℕ → Bool
begins_here text = begins_with less text && begins_with less (drop 1 text)

-- The offset at which a here-document begins whose `<<` is at the front of a text: after this line, or after those that
-- are to come already. (POSIX shell, 2.7.4; that a quoted newline ends the line is own)
abbrev pub here_start : HereTexts → List ℕ → ℕ
here_start h text = if h.end == 0 then whole_line_len text else min h.end (length text)

-- With the here-document whose `<<` is at the front of a text, and that has this delimiter. (own)
abbrev pub with_word : HereTexts → List ℕ → List ℕ → HereTexts
with_word h word text = record {
  until = if h.end == 0 then whole_line_len text else h.until;
  end = here_start h text + here_len (begins_with dash (drop 2 text)) word true (drop (here_start h text) text);
}

-- With the here-document whose `<<` is at the front of a text, if a delimiter follows. (POSIX shell, 2.7.4)
abbrev pub with_here : HereTexts → List ℕ → HereTexts
with_here h text = if length (delimiter (drop 2 text)) == 0 then h else with_word h (delimiter (drop 2 text)) text

-- After this many bytes. (own)
abbrev pub past : ℕ → HereTexts → HereTexts
past n h = record { until = h.until - n; end = h.end - n }
