-- A word of a shell that stands in the source, and an assignment of one. All of this is own.
use Rattle.std.specs.Prelude.{◌≡◌, ◌⊎◌, ℕ, ◌-◌, ◌<◌, ◌≤◌, ◌==◌, ◌||◌, nat_lt, ◌&&◌, Bool, true, false, List, length, slice_index, slice_range}
use Rattle.std.specs.List.{list_all, list_any}
use Rattle.std.specs.Char.{is_ascii_alphanumeric}

-- A byte of a variable's name.
abbrev pub is_of_name : ℕ → Bool
is_of_name b = is_ascii_alphanumeric b || b == 95

-- A digit.
abbrev pub is_digit : ℕ → Bool
is_digit b = nat_lt 47 b && nat_lt b 58

-- The text is the name of a variable. (POSIX, 3.235 "Name")
pub record IsVariable (name : List ℕ) : Type 0 where
  pub some : 0 < length name
  pub are : list_all is_of_name name ≡ true
  pub no_digit : is_digit (slice_index name 0) ≡ false

-- A sign that means nothing to a shell within a word: one of `-./+,:%@=`.
abbrev pub is_mark : ℕ → Bool
is_mark b = b == 45 || b == 46 || b == 47 || b == 43 || b == 44 || b == 58 || b == 37 || b == 64 || b == 61

-- A sign of a parameter: `$` or a brace.
abbrev pub is_dollar : ℕ → Bool
is_dollar b = b == 36 || b == 123 || b == 125

-- A byte of a word without a command in it, and without a pattern of file names.
abbrev pub is_value : ℕ → Bool
is_value b = is_of_name b || is_mark b || is_dollar b

-- The same, or a space: what double quotes may have between them.
abbrev pub is_quotable : ℕ → Bool
is_quotable b = is_value b || b == 32

-- The word is in double quotes, which are one pair.
pub record IsInQuotes (word : List ℕ) : Type 0 where
  pub long : 2 ≤ length word
  pub opened : slice_index word 0 ≡ 34
  pub closed : slice_index word (length word - 1) ≡ 34
  pub inner : list_all is_quotable (slice_range word 1 (length word - 1)) ≡ true

-- The text is one word, whose value a shell finds without running a command.
abbrev pub IsValue : List ℕ → Type 0
IsValue word = (list_all is_value word ≡ true) ⊎ IsInQuotes word

-- The same, and its value is what is written there.
pub record IsConstant (word : List ℕ) : Type 0 where
  pub one : IsValue word
  pub no_dollar : list_any is_dollar word ≡ false
