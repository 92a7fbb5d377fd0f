-- A test of a file in a condition, and the program of C that asks the same. The offsets are those of the condition. (POSIX, `test`; that a
-- program asks is own)
use Rattle.std.specs.Prelude.{◌≡◌, ◌⊎◌, ℕ, ◌+◌, ◌<◌, ◌≤◌, ◌==◌, ◌||◌, Bool, true, false, List, [], ◌∷◌, ◌++◌, length, take, slice_range, slice_index, codes, if◌then◌else◌}
use Rattle.std.specs.List.{list_all, list_any}
use Rattle.std.specs.Char.{is_ascii_alphanumeric}
use Rattle.port_parts.specs.Places.{IsWord}
use Rattle.port_joints.specs.Joints.{is_gap}
use Rattle.port_joints.specs.Spelled.{is_hard, is_open_after, IsReadable}

-- ---- where the test is

-- The letter of an operator of `test` that asks about a file: `d`, `e`, `f`, `r`, `s`, `w` or `x`.
abbrev pub is_file_letter : ℕ → Bool
is_file_letter b = b == 100 || b == 101 || b == 102 || b == 114 || b == 115 || b == 119 || b == 120

-- At this offset are a space, `-`, such a letter, and a space. They are in no double quotes.
pub record IsFileOperator (text : List ℕ) (at letter : ℕ) : Type 0 where
  pub outside : is_open_after false (take at text) ≡ false
  pub is : IsWord text at (32 ∷ 45 ∷ letter ∷ 32 ∷ []) (at + 4)
  pub asks : is_file_letter letter ≡ true

-- A byte that means the same in the name of a file for a shell and in a text of C, or that may be in `$NAME` or `${NAME}`. (own)
abbrev pub is_path_byte : ℕ → Bool
is_path_byte b = is_ascii_alphanumeric b || b == 36 || b == 43 || b == 45 || b == 46 || b == 47 || b == 58 || b == 95 || b == 123 || b == 125

-- The text has this part at some place.
abbrev pub HasPart : List ℕ → List ℕ → Type 0
HasPart text part = (at : ℕ) × (at < length text) × (slice_range text at (at + length part) ≡ part)

-- From `start` to `end` is a word, which has the name of a file between the other two offsets: the word is that name, or the name in double
-- quotes.
abbrev pub IsAround : List ℕ → ℕ → ℕ → ℕ → ℕ → Type 0
IsAround text start from to end =
    ((start ≡ from) × (to ≡ end)) ⊎ ((start + 1 ≡ from) × (to + 1 ≡ end) × (slice_index text start ≡ 34) × (slice_index text to ≡ 34))

-- The same, and the name can be put into a program. acrun has no `$srcdir`. (own)
pub record IsPath (text : List ℕ) (start from to end : ℕ) : Type 0 where
  pub order : (from < to) × (to ≤ end) × (end ≤ length text)
  pub around : IsAround text start from to end
  pub bytes : list_all is_path_byte (slice_range text from to) ≡ true
  pub no_option : slice_index text from ≡ 45 → ⊥
  pub no_source : HasPart (slice_range text from to) (codes "srcdir") → ⊥
  pub ends : (end ≡ length text) ⊎ (is_gap (slice_index text end) ≡ true)

-- At this offset is such an operator, and then a word with such a name, up to `end`.
pub record IsFileTest (text : List ℕ) (at letter from to end : ℕ) : Type 0 where
  pub operator : IsFileOperator text at letter
  pub path : IsPath text (at + 4) from to end

-- ---- what is asked

-- A condition has been read up to an offset, and this was written for it. All is copied, but such an operator may become `-n`.
pub data IsTurned (text : List ℕ) : ℕ → List ℕ → Type 0 where
  begun : IsTurned text 0 []
  copied : {at : ℕ} {out : List ℕ} (next : ℕ) → IsTurned text at out → at ≤ next → next ≤ length text → IsTurned text next (out ++ slice_range text at next)
  turned : {at : ℕ} {out : List ℕ} (letter : ℕ) → IsTurned text at out → IsFileOperator text at letter → IsTurned text (at + 4) (out ++ codes " -n ")

-- If each such operator is taken for `-n`, the condition is a test: so each is one, and the word after it is its operand.
pub record IsTestOfFiles (text : List ℕ) : Type 0 where
  pub words : List ℕ
  pub plain : list_any is_hard text ≡ false
  pub turned : IsTurned text (length text) words
  pub readable : IsReadable words

-- The text of C before the name of the file.
unfoldable pub before_path : ℕ → List ℕ
before_path letter = if letter == 100 || letter == 102 || letter == 115 then codes "struct stat s; return stat (" else codes "return access ("

-- The text of C after the name of the file.
unfoldable pub after_path : ℕ → List ℕ
after_path letter =
    if letter == 100 then codes ", &s) != 0 || !S_ISDIR (s.st_mode);"
    else if letter == 102 then codes ", &s) != 0 || !S_ISREG (s.st_mode);"
    else if letter == 115 then codes ", &s) != 0 || s.st_size == 0;"
    else if letter == 114 then codes ", R_OK) != 0;"
    else if letter == 119 then codes ", W_OK) != 0;"
    else if letter == 120 then codes ", X_OK) != 0;"
    else codes ", F_OK) != 0;"

-- The headers that declare `stat` and `access`.
unfoldable pub headers : List ℕ
headers = codes "AC_LANG_PROGRAM([[#include <sys/stat.h>" ++ (10 ∷ codes "#include <unistd.h>]], [[")

-- The program, as an argument: its status is 0 if the file is what the operator asks for.
unfoldable pub program_of : ℕ → List ℕ → List ℕ
program_of letter path = (headers ++ before_path letter) ++ ((34 ∷ (path ++ 34 ∷ [])) ++ (after_path letter ++ codes "]])"))

-- The condition with the value of a variable in the place of the test of a file: that it is `yes`.
unfoldable pub with_answer : List ℕ → ℕ → ℕ → List ℕ → List ℕ
with_answer text at end name = (slice_range text 0 (at + 1) ++ (34 ∷ 36 ∷ name)) ++ ((34 ∷ codes " = yes") ++ slice_range text end (length text))
