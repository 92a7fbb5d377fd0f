-- The stand-in for a compiler (own): its answer, from its words, its list and the conftest.
use Rattle.std.specs.Prelude.{◌≡◌, ◌⊎◌, ◌++◌, ℕ, ◌<◌, nat_eq, Bool, true, false, List, [], ◌∷◌, Option, Some, None, length, reverse, find, bytes_eq, codes, slice_get, slice_index_or, unwrap_or, IfSome, All}
use Rattle.std.specs.List.{ends_with}
use Rattle.bstr.specs.Text.{Contains}
use Rattle.file_disk.specs.Known.{Known}
use Rattle.file_texts.specs.Reading.{IsReadLimited}
use Rattle.text_cut.specs.Cuts.{parts}
use Rattle.file_texts.specs.Parted.{first_line}

-- The word is the name of a C source file. (own)
abbrev pub names_source : List ℕ → Bool
names_source word = ends_with nat_eq word (codes ".c")

-- The conftest's name: the last word that is the name of a C source file. (own)
abbrev pub conftest_name : List (List ℕ) → Option (List ℕ)
conftest_name words = find names_source (reverse words)

-- The name of the list. (own)
abbrev pub list_name : List ℕ
list_name = codes "standin.txt"

-- If something is known of the files, this is the text under the name, or its first 64 MiB and one byte more. What can't be
-- read has the empty text. (own)
abbrev pub ReadsText : Option Known → List ℕ → List ℕ → Type 0
ReadsText files name text = (read : Option (List ℕ)) × IfSome files (λ k. IsReadLimited k name read) × (text ≡ unwrap_or read [])

-- This is the text of the conftest, which is empty if none is named. (own)
abbrev pub ReadsConftest : Option Known → Option (List ℕ) → List ℕ → Type 0
ReadsConftest files None text = text ≡ []
ReadsConftest files (Some name) text = ReadsText files name text

-- The list makes children wait for each other. (own)
abbrev pub is_meeting : List ℕ → Bool
is_meeting list = bytes_eq (first_line list) (codes "!meet")

-- The conftest that waits for the other one. (own)
abbrev pub waiting : List ℕ
waiting = codes "conftest1.c"

-- The lines of the list, each without its newline. (own)
abbrev pub lines_of : List ℕ → List (List ℕ)
lines_of list = parts 10 list

-- The line isn't empty, and occurs in the conftest. (own)
abbrev pub IsBarred : List ℕ → List ℕ → Type 0
IsBarred conftest line = (0 < length line) × Contains conftest line

-- The line is the first of the list that occurs in the conftest. (own)
pub record IsFirstBarred (list conftest line : List ℕ) : Type 0 where
  pub place : ℕ
  pub stands : slice_get (lines_of list) place ≡ Some line
  pub barred : IsBarred conftest line
  pub before : (k : ℕ) → k < place → ¬ IsBarred conftest (slice_index_or (lines_of list) k [])

-- No line of the list occurs in the conftest. (own)
abbrev pub HasNoBarred : List ℕ → List ℕ → Type 0
HasNoBarred list conftest = All (λ line. ¬ IsBarred conftest line) (lines_of list)

-- The exit status, if the list has this text: 1 if a line of the list occurs in the conftest, and else 0; if children wait
-- for each other it is 0, except that it may be 1 for the one that waits. (own)
pub data Answers (files : Option Known) (words : List (List ℕ)) (list : List ℕ) : ℕ → Type 0 where
  barred : (conftest line : List ℕ) → is_meeting list ≡ false → ReadsConftest files (conftest_name words) conftest → IsFirstBarred list conftest line → Answers files words list 1
  passed : (conftest : List ℕ) → is_meeting list ≡ false → ReadsConftest files (conftest_name words) conftest → HasNoBarred list conftest → Answers files words list 0
  met : is_meeting list ≡ true → Answers files words list 0
  waited : is_meeting list ≡ true → conftest_name words ≡ Some waiting → Answers files words list 1

-- The exit status is the answer for the texts of the two files. (own)
pub record IsAnswered (files : Option Known) (words : List (List ℕ)) (status : ℕ) : Type 0 where
  pub list : List ℕ
  pub read : ReadsText files list_name list
  pub answers : Answers files words list status

-- If the files that were made are known, one of this name was made, or none. (own)
abbrev pub IsMade : Option (List (List ℕ)) → Option (List (List ℕ)) → List ℕ → Type 0
IsMade old new name = IfSome old (λ before. IfSome new (λ now. (now ≡ before) ⊎ (now ≡ before ++ name ∷ [])))

-- No file was made; or at most one, by which the conftest of these words is seen: its name, and `.seen` after it. (own)
pub data Meets (old new : Option (List (List ℕ))) (words : List (List ℕ)) : Type 0 where
  apart : new ≡ old → Meets old new words
  seen : (name : List ℕ) → conftest_name words ≡ Some name → IsMade old new (name ++ codes ".seen") → Meets old new words
