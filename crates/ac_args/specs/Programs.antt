-- Arguments of checks: names of programs, and the texts of programs that are compiled. (Autoconf's manual, "Generic
-- Programs" and "Generating Sources"; which bytes a program's name may have is own)
use Rattle.std.specs.Prelude.{ℕ, Bool, not, ◌&&◌, ◌||◌, ◌==◌, List, [], ◌∷◌, ◌++◌, length, Option, Some, None, Result, Ok, nat_lt, codes, if◌then◌else◌}
use Rattle.std.specs.List.{list_all}
use Rattle.std.specs.Str.{bytes_eq}
use Rattle.conftest_source.specs.Sources.{default_includes}
use Rattle.m4quote.specs.ItemValue.{Span}
use Rattle.shellword.specs.Scan.{here_of}
use Rattle.shellword.specs.declared.part.Part.{Part}
use Rattle.text_cut.specs.Cuts.{is_blank, trimmed, fields, parts}
use Rattle.ac_statement.specs.declared.fault.ParseFault.{ParseFault}
use Rattle.ac_statement.specs.declared.fault.ParseFault.TheVariants.{BadName}
use Rattle.ac_args.specs.Arguments.{text, trimmed_text, formed}
use Rattle.ac_statement.specs.Reading.{◌>>=◌, shell_at, wants}
use Rattle.ac_tree.specs.Texts.{is_empty}

-- ---- names of programs

-- No blank, `$`, backslash or backquote. (own)
abbrev pub is_program_byte : ℕ → Bool
is_program_byte b = not (is_blank b || b == 36 || b == 92 || b == 96)

-- A text that can name a program. (own)
unfoldable pub is_program : List ℕ → Bool
is_program name = not (is_empty name) && list_all is_program_byte name

-- The name of a program. (own)
unfoldable pub program : Span → Result (List ℕ) ParseFault
program arg = formed arg is_program (trimmed_text arg)

-- The programs that a text at offset `at` lists between blanks, at least one. (own)
abbrev pub programs_in : ℕ → List ℕ → Result (List (List ℕ)) ParseFault
programs_in at t = do
  _ ← wants (nat_lt 0 (length (fields t))) (BadName at)
  _ ← wants (list_all is_program (fields t)) (BadName at)
  Ok (fields t)

-- The programs that an argument lists between blanks, at least one. (own)
unfoldable pub programs : Span → Result (List (List ℕ)) ParseFault
programs arg = text arg >>= programs_in arg.at

-- ---- texts that are compiled

-- A line that is AC_INCLUDES_DEFAULT alone, with blanks around it or none. (own)
abbrev pub is_default_line : List ℕ → Bool
is_default_line line = bytes_eq (trimmed line) (codes "AC_INCLUDES_DEFAULT")

-- The newline of a line, which the last one doesn't have. (own)
abbrev pub newline_if : Bool → List ℕ
newline_if is_last = if is_last then [] else 10 ∷ []

-- A line with its newline, or the default includes in its place. (Autoconf's manual, "Generating Sources")
abbrev pub line_or_includes : Bool → List ℕ → List ℕ
line_or_includes is_last line = if is_default_line line then default_includes else line ++ newline_if is_last

-- The lines, one after another. (own)
abbrev pub lines_with_includes : List (List ℕ) → List ℕ
lines_with_includes [] = []
lines_with_includes (line ∷ more) = line_or_includes (length more == 0) line ++ lines_with_includes more

-- The text with the default includes in the place of each line that is AC_INCLUDES_DEFAULT. (own)
unfoldable pub with_includes : List ℕ → List ℕ
with_includes t = lines_with_includes (parts 10 t)

-- A text at this offset as here text, with the default includes in it. (Autoconf's manual, "Generating Sources")
unfoldable pub source_in : ℕ → List ℕ → Result (List Part) ParseFault
source_in at t = shell_at at (here_of (with_includes t))

-- The used text as here text, with the default includes in it. (Autoconf's manual, "Generating Sources")
unfoldable pub source_text : Span → Result (List Part) ParseFault
source_text arg = text arg >>= source_in arg.at

-- The text is `-` alone, with blanks around it or none. (own)
abbrev pub is_dash : List ℕ → Bool
is_dash t = bytes_eq (trimmed t) (codes "-")

-- The includes that a text at this offset gives, which are not the default ones. (own)
abbrev pub includes_in : ℕ → List ℕ → Result (Option (List Part)) ParseFault
includes_in at t = do
  _ ← wants (not (is_dash t)) (BadName at)
  h ← source_in at t
  Ok (Some h)

-- The includes that an argument gives; none if its used text is empty, which means the default ones. (Autoconf's manual,
-- "Generic Headers"; that `-` is an error is own)
unfoldable pub includes : Span → Result (Option (List Part)) ParseFault
includes arg = text arg >>= λ t. if is_empty t then Ok None else includes_in arg.at t
