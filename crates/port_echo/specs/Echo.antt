-- The `echo` of a shell on a line of its own, and what it prints. The offsets are those of the text.
use Rattle.std.specs.Prelude.{◌≡◌, ◌⊎◌, ℕ, ◌+◌, ◌-◌, ◌<◌, ◌≤◌, ◌==◌, ◌||◌, ◌&&◌, nat_lt, not, Bool, true, List, [], ◌∷◌, ◌++◌, length, slice_index, slice_range, codes}
use Rattle.std.specs.List.{list_all}
use Rattle.port_parts.specs.Places.{AreSpaces, HasDnl, IsWord}

-- ---- what is printed

-- A byte of ASCII that is printed, but `"`, `#`, a backquote, a bracket or a backslash. (own)
abbrev pub is_shown : ℕ → Bool
is_shown b = nat_lt 31 b && nat_lt b 127 && not (b == 34 || b == 35 || b == 91 || b == 92 || b == 93 || b == 96)

-- The same, but no `$` and no single quote. (own)
abbrev pub is_constant : ℕ → Bool
is_constant b = is_shown b && not (b == 36 || b == 39)

-- A byte that a shell reads as it is outside quotes too, or the `$` of a variable: a letter, a digit, a space, or one of
-- `$ % + , - . / : = @ _`. (own)
abbrev pub is_bare : ℕ → Bool
is_bare b =
    (nat_lt 46 b && nat_lt b 59) || (nat_lt 63 b && nat_lt b 91) || (nat_lt 96 b && nat_lt b 123)
    || (b == 32 || b == 36 || b == 37 || b == 43 || b == 44 || b == 45 || b == 46 || b == 61 || b == 95)

-- The text has two spaces in a row, of which `echo` prints one.
abbrev pub HasTwoSpaces : List ℕ → Type 0
HasTwoSpaces text = (at : ℕ) × (slice_range text at (at + 2) ≡ 32 ∷ 32 ∷ [])

-- The text is words with one space between them, and none before and after them.
pub record AreWords (text : List ℕ) : Type 0 where
  pub bare : list_all is_bare text ≡ true
  pub one_space : HasTwoSpaces text → ⊥
  pub no_space_before : slice_index text 0 ≡ 32 → ⊥
  pub no_space_after : slice_index text (length text - 1) ≡ 32 → ⊥

-- What `echo` prints of these words, or of one word in quotes. The value of a variable is taken as it is. (POSIX shell, "echo", 2.2)
pub data Prints (text message : List ℕ) : Type 0 where
  words : AreWords text → message ≡ text → Prints text message
  constant : text ≡ 39 ∷ (message ++ 39 ∷ []) → list_all is_constant message ≡ true → Prints text message
  quoted : text ≡ 34 ∷ (message ++ 34 ∷ []) → list_all is_shown message ≡ true → Prints text message

-- The text can be a message: it isn't empty, it begins with no `-`, which may be that of an option, and it has no `dnl`. (own)
pub record IsMessage (text : List ℕ) : Type 0 where
  pub some : 0 < length text
  pub no_option : slice_index text 0 ≡ 45 → ⊥
  pub no_dnl : HasDnl text → ⊥

-- ---- the line

-- Between the first and the last of these offsets is a line, which has only spaces, `echo` at offset `at`, a space, and what is given to
-- `echo`.
pub record IsLine (text : List ℕ) (start at end : ℕ) : Type 0 where
  pub order : (start ≤ at) × (at + 5 ≤ end) × (end ≤ length text)
  pub begins : (start ≡ 0) ⊎ ((0 < start) × (slice_index text (start - 1) ≡ 10))
  pub indent : AreSpaces text start at
  pub word : IsWord text at (codes "echo ") (at + 5)
  pub ends : (end ≡ length text) ⊎ (slice_index text end ≡ 10)

-- The line prints this message.
pub record IsEcho (text : List ℕ) (start at end : ℕ) (message : List ℕ) : Type 0 where
  pub line : IsLine text start at end
  pub prints : Prints (slice_range text (at + 5) end) message
  pub can_be_shown : IsMessage message
