-- The bytes of a shell text, by their meaning.
use Rattle.std.specs.Prelude.{ℕ, ◌+◌, Bool, true, false, ◌||◌, not, List, [], ◌∷◌, ◌==◌, if◌then◌else◌}
use Rattle.std.specs.List.{prefix_len, list_all}
use Rattle.std.specs.Char.{is_ascii_digit}
use Rattle.deftable.specs.ShellName.{starts_name, continues_name}
pub use Rattle.text_cut.specs.Cuts.{is_blank, is_space}

-- The single quote. (POSIX shell, 2.2.2)
abbrev pub single_quote : ℕ
single_quote = 39

-- The double quote. (POSIX shell, 2.2.3)
abbrev pub double_quote : ℕ
double_quote = 34

-- The backslash. (POSIX shell, 2.2.1)
abbrev pub backslash : ℕ
backslash = 92

-- `$`. (POSIX shell, 2.6)
abbrev pub dollar : ℕ
dollar = 36

-- The backquote. (POSIX shell, 2.6.3)
abbrev pub backquote : ℕ
backquote = 96

-- The newline. (POSIX shell, 2.3)
abbrev pub newline : ℕ
newline = 10

-- `;`. (POSIX shell, 2.9.3)
abbrev pub semicolon : ℕ
semicolon = 59

-- `&`. (POSIX shell, 2.9.3)
abbrev pub ampersand : ℕ
ampersand = 38

-- `|`. (POSIX shell, 2.9.3 and 2.9.4.3)
abbrev pub bar : ℕ
bar = 124

-- `{`. (POSIX shell, 2.6.2)
abbrev pub open_brace : ℕ
open_brace = 123

-- `}`. (POSIX shell, 2.6.2)
abbrev pub close_brace : ℕ
close_brace = 125

-- The length of the longest variable name at the front. (POSIX shell, 2.6.2)
abbrev pub name_len : List ℕ → ℕ
name_len [] = 0
name_len (b ∷ bs) = if starts_name b then prefix_len continues_name bs + 1 else 0

-- The bytes with a special meaning in a here text. (POSIX shell, 2.7.4)
abbrev pub expands_here : ℕ → Bool
expands_here b = b == backslash || b == dollar || b == backquote

-- The bytes with a special meaning in double quotes. (POSIX shell, 2.2.3)
abbrev pub expands_in_double : ℕ → Bool
expands_in_double b = b == double_quote || b == backslash || b == dollar || b == backquote

-- The bytes with a special meaning outside quotes, except for those that end a word. (POSIX shell, 2.2)
abbrev pub expands_bare : ℕ → Bool
expands_bare b = b == single_quote || b == double_quote || b == backslash || b == dollar || b == backquote

-- The bytes before which a backslash in double quotes is dropped. (POSIX shell, 2.2.3)
abbrev pub escapes_in_double : ℕ → Bool
escapes_in_double b = b == dollar || b == backquote || b == double_quote || b == backslash

-- The bytes before which a backslash in a here text is dropped. (POSIX shell, 2.7.4)
abbrev pub escapes_here : ℕ → Bool
escapes_here b = b == dollar || b == backquote || b == backslash || b == newline

-- The text begins with a byte that passes the test. (own)
abbrev pub begins : (ℕ → Bool) → List ℕ → Bool
begins test [] = false
begins test (b ∷ bs) = test b

-- The text begins with this byte. (own)
abbrev pub begins_with : ℕ → List ℕ → Bool
begins_with b [] = false
begins_with b (c ∷ cs) = c == b

-- The text doesn't contain this byte. (own)
abbrev pub has_no : ℕ → List ℕ → Bool
has_no b text = list_all (λ c. not (c == b)) text

-- The bytes that begin a shell's parameter or expansion after `$`: a digit, one of @*#?!-$( or a brace. (POSIX shell,
-- 2.5 and 2.6)
abbrev pub follows_dollar : ℕ → Bool
follows_dollar b =
    is_ascii_digit b || b == 64 || b == 42 || b == 35 || b == 63 || b == 33 || b == 45 || b == dollar || b == 40 || b == open_brace

-- A `$` before this text is an ordinary byte. (POSIX shell, 2.6, leaves this open)
abbrev pub stands_alone : List ℕ → Bool
stands_alone [] = true
stands_alone (b ∷ bs) = not (starts_name b || follows_dollar b)

-- The bytes that end a word outside quotes: blanks and ; & | < > ( ). (POSIX shell, 2.2)
abbrev pub ends_word : ℕ → Bool
ends_word b = is_blank b || b == semicolon || b == ampersand || b == bar || b == 60 || b == 62 || b == 40 || b == 41

-- A word outside quotes ends before this text. (POSIX shell, 2.2)
abbrev pub word_ends : List ℕ → Bool
word_ends [] = true
word_ends (b ∷ bs) = ends_word b

-- A word at the front of bare text may end before this text: the text is empty, or begins with a blank or `;`. (own)
abbrev pub is_parted : List ℕ → Bool
is_parted [] = true
is_parted (b ∷ bs) = is_blank b || b == semicolon
