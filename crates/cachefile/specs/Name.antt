-- Names in a cache file.
use Rattle.std.specs.Prelude.{ℕ, ◌==◌, nat_eq, ◌||◌, Bool, false, List, [], ◌∷◌, codes}
use Rattle.std.specs.Char.{is_ascii_alphanumeric}
use Rattle.std.specs.List.{list_all, starts_with}

-- Whether the byte is a letter, a digit or `_`. (POSIX, "Name")
abbrev pub is_word_byte : ℕ → Bool
is_word_byte b = is_ascii_alphanumeric b || b == 95

-- Whether the text is a word: one or more letters, digits and `_`. (own)
abbrev pub is_word : List ℕ → Bool
is_word [] = false
is_word (b ∷ bs) = list_all is_word_byte (b ∷ bs)

-- Whether the name begins with `ac_cv_env_`, as those do under which configure saves its precious variables. (own;
-- Autoconf's manual, "Setting Output Variables", has the precious variables)
unfoldable pub is_mark : List ℕ → Bool
is_mark name = starts_with nat_eq name (codes "ac_cv_env_")
