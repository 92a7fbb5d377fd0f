-- Arguments that are numbers, and the name of a language.
use Rattle.std.specs.Prelude.{ℕ, ◌+◌, ◌-◌, ◌*◌, Bool, false, not, ◌&&◌, ◌||◌, ◌==◌, List, [], ◌∷◌, fold, length, Result, Ok, nat_le, nat_lt, codes, slice_index_or, if◌then◌else◌}
use Rattle.std.specs.Char.{is_ascii_digit}
use Rattle.std.specs.List.{list_all}
use Rattle.std.specs.Str.{bytes_eq}
use Rattle.m4quote.specs.ItemValue.{Span}
use Rattle.text_cut.specs.Cuts.{parts}
use Rattle.ac_statement.specs.declared.fault.ParseFault.{ParseFault}
use Rattle.ac_statement.specs.declared.fault.ParseFault.TheVariants.{BadName, NewerVersion}
use Rattle.ac_args.specs.Arguments.{text, trimmed_text}
use Rattle.ac_statement.specs.Reading.{◌>>=◌, wants}
use Rattle.ac_tree.specs.Texts.{is_empty}

-- One digit or more. (own)
abbrev pub is_number : List ℕ → Bool
is_number [] = false
is_number (b ∷ bs) = list_all is_ascii_digit (b ∷ bs)

-- A number with one digit appended; 1,000 represents every number from 1,000 on. (own)
abbrev pub digit_more : ℕ → ℕ → ℕ
digit_more n b = if nat_lt (n * 10 + (b - 48)) 1000 then n * 10 + (b - 48) else 1000

-- The number that digits spell; no digits spell 0. (own)
abbrev pub number : List ℕ → ℕ
number text = fold digit_more 0 text

-- One to three numbers. (own)
abbrev pub is_version : List (List ℕ) → Bool
is_version numbers = list_all is_number numbers && nat_le (length numbers) 3

-- The number at i of a version, or 0 if it has none there. (own)
abbrev pub version_number : List (List ℕ) → ℕ → ℕ
version_number numbers i = number (slice_index_or numbers i [])

-- The version is newer than 2.71, compared number by number. (Autoconf's manual, "Versioning")
abbrev pub is_newer : List (List ℕ) → Bool
is_newer v =
    nat_lt 2 (version_number v 0)
    || ((version_number v 0 == 2) && (nat_lt 71 (version_number v 1) || ((version_number v 1 == 71) && nat_lt 0 (version_number v 2))))

-- The numbers are a version that is at most 2.71. (own)
unfoldable pub version_of : ℕ → List (List ℕ) → Result (Unit {0}) ParseFault
version_of at numbers = do
  _ ← wants (is_version numbers) (BadName at)
  _ ← wants (not (is_newer numbers)) (NewerVersion at)
  Ok tt

-- The version that AC_PREREQ requires: numbers with dots between them. (Autoconf's manual, "Versioning")
unfoldable pub version : Span → Result (Unit {0}) ParseFault
version arg = do
  t ← text arg
  version_of arg.at (parts 46 t)

-- An exit status from 1 to 255, or 1 if the text is empty. (own)
unfoldable pub status : Span → Result ℕ ParseFault
status arg = do
  t ← text arg
  _ ← wants (is_empty t || (is_number t && nat_lt 0 (number t) && nat_lt (number t) 256)) (BadName arg.at)
  Ok (if is_empty t then 1 else number t)

-- The name of the one language that is read. (own)
unfoldable pub language : Span → Result (Unit {0}) ParseFault
language arg = do
  t ← trimmed_text arg
  _ ← wants (bytes_eq t (codes "C")) (BadName arg.at)
  Ok tt
