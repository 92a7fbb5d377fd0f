-- The bytes of bare text, by their meaning.
use Rattle.std.specs.Prelude.{ℕ, Bool, ◌||◌, not, List, ◌==◌}
use Rattle.std.specs.List.{prefix_len}
use Rattle.shellword.specs.Text.{newline, semicolon, is_blank}

-- `#`, which begins a comment. (POSIX shell, 2.3)
abbrev pub hash : ℕ
hash = 35

-- `:`. (POSIX shell, the special built-in "colon")
abbrev pub colon : ℕ
colon = 58

-- `=`. (POSIX shell, 2.9.1)
abbrev pub equals : ℕ
equals = 61

-- The bytes after which a shell word begins, outside quotes. (POSIX shell, 2.3)
abbrev pub is_part_end : ℕ → Bool
is_part_end b = is_blank b || b == semicolon

-- The number of bytes before the first newline. (POSIX shell, 2.3)
abbrev pub comment_len : List ℕ → ℕ
comment_len text = prefix_len (λ b. not (b == newline)) text
