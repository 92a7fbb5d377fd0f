-- Arguments that name libraries. (Autoconf's manual, "Library Files"; which bytes a library's name may have is own)
use Rattle.std.specs.Prelude.{ℕ, Bool, List, length, Result, Ok, nat_lt}
use Rattle.std.specs.List.{list_all}
use Rattle.m4quote.specs.ItemValue.{Span}
use Rattle.text_cut.specs.Cuts.{fields}
use Rattle.ac_statement.specs.declared.fault.ParseFault.{ParseFault}
use Rattle.ac_statement.specs.declared.fault.ParseFault.TheVariants.{BadName}
use Rattle.ac_args.specs.Arguments.{text, trimmed_text, formed}
use Rattle.ac_statement.specs.Reading.{◌>>=◌, wants}
use Rattle.ac_tree.specs.Feature.{is_feature}

-- A text that can name a library: it is not empty, and has only bytes that the name of a feature may have. (own)
unfoldable pub is_library : List ℕ → Bool
is_library name = is_feature name

-- The name of a library. (Autoconf's manual, "Library Files")
unfoldable pub library : Span → Result (List ℕ) ParseFault
library arg = formed arg is_library (trimmed_text arg)

-- The libraries that a text at offset `at` lists between blanks, at least one. (Autoconf's manual, "Library Files")
abbrev pub libraries_in : ℕ → List ℕ → Result (List (List ℕ)) ParseFault
libraries_in at t = do
  _ ← wants (nat_lt 0 (length (fields t))) (BadName at)
  _ ← wants (list_all is_library (fields t)) (BadName at)
  Ok (fields t)

-- The libraries that an argument lists between blanks, at least one. (Autoconf's manual, "Library Files")
unfoldable pub libraries : Span → Result (List (List ℕ)) ParseFault
libraries arg = text arg >>= libraries_in arg.at
