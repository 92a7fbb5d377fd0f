-- Where an offset of a text is.
use Rattle.std.specs.Prelude.{ℕ, ◌+◌, ◌-◌, min, List, length, slice_range}
use Rattle.std.specs.List.{count_by, prefix_len, suffix_len}
use Rattle.lint_text.specs.Parts.{is_newline, is_in_line, before, from}
use Rattle.lint_text.specs.declared.places.Position.{Position}

-- The place of an offset: its line is 1 and the number of newlines before it, and its column is 1 and the number of bytes since the last
-- newline before it. (own)
unfoldable pub position_of : List ℕ → ℕ → Position
position_of text offset = record { line = count_by is_newline (before text offset) + 1; column = suffix_len is_in_line (before text offset) + 1 }

-- The offset of the first byte of the offset's line: that after the last newline before it. (own)
unfoldable pub line_start : List ℕ → ℕ → ℕ
line_start text offset = length (before text offset) - suffix_len is_in_line (before text offset)

-- The end of the offset's line: the first newline from the offset on, or the end of the text if there is none. (own)
unfoldable pub line_end : List ℕ → ℕ → ℕ
line_end text offset = min offset (length text) + prefix_len is_in_line (from text offset)

-- The offset's line, without its newline. (own)
unfoldable pub line_at : List ℕ → ℕ → List ℕ
line_at text offset = slice_range text (line_start text offset) (line_end text offset)
