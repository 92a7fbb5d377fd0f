-- Parts of a text.
use Rattle.std.specs.Prelude.{ℕ, ◌-◌, Bool, not, ◌&&◌, ◌||◌, ◌==◌, nat_le, List, [], length, take, drop, take_while, slice_range, if◌then◌else◌}
use Rattle.std.specs.Char.{is_ascii_alphanumeric}
use Rattle.std.specs.List.{prefix_len, suffix_len}
use Rattle.text_cut.specs.Cuts.{is_blank, is_space}

-- The byte is a newline, which ends its line. (own)
abbrev pub is_newline : ℕ → Bool
is_newline b = b == 10

-- The byte is no newline. (own)
abbrev pub is_in_line : ℕ → Bool
is_in_line b = not (b == 10)

-- A letter, a digit or `_`, of which names consist. (GNU M4's manual, "Names")
abbrev pub is_word_byte : ℕ → Bool
is_word_byte b = is_ascii_alphanumeric b || b == 95

-- No space, tab, newline or `;`, so a byte of a first word. (own)
abbrev pub is_in_word : ℕ → Bool
is_in_word b = not (is_blank b || b == 59)

-- The bytes before the offset, which are all if it is past the end. (own)
abbrev pub before : List ℕ → ℕ → List ℕ
before text offset = take offset text

-- The bytes from the offset on, which are none if it is past the end. (own)
abbrev pub from : List ℕ → ℕ → List ℕ
from text offset = drop offset text

-- The part of a text between two offsets, or nothing if it has no such part. (own)
abbrev pub part : List ℕ → ℕ → ℕ → List ℕ
part text start end = if nat_le start end && nat_le end (length text) then slice_range text start end else []

-- The name at the front: the longest front of letters, digits and `_`. (GNU M4's manual, "Names"; that a digit may begin it is own)
abbrev pub first_name : List ℕ → List ℕ
first_name text = take_while is_word_byte text

-- The word at the front, which a space, a tab, a newline or a `;` ends. (own)
abbrev pub first_word : List ℕ → List ℕ
first_word text = take_while is_in_word text

-- The line at the front, without its newline. (own)
abbrev pub first_line : List ℕ → List ℕ
first_line text = take_while is_in_line text

-- What is left of a text without the spaces and tabs at its front. (own)
abbrev pub after_blanks : List ℕ → List ℕ
after_blanks text = drop (prefix_len is_space text) text

-- What is left of a text without the spaces, tabs and newlines at its end. (own)
abbrev pub without_end_blanks : List ℕ → List ℕ
without_end_blanks text = take (length text - suffix_len is_blank text) text
