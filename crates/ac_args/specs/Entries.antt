-- Readers of arguments that name headers, functions, declarations or types. Errors have the offset of the argument; those of
-- quoting have their own offset.
use Rattle.std.specs.Prelude.{ℕ, List, length, Result, Ok, nat_lt, nat_le}
use Rattle.std.specs.List.{list_all}
use Rattle.m4quote.specs.ItemValue.{Span}
use Rattle.m4quote.specs.Scan.{used}
use Rattle.text_cut.specs.Cuts.{trimmed}
use Rattle.ac_statement.specs.declared.fault.ParseFault.{ParseFault}
use Rattle.ac_statement.specs.declared.fault.ParseFault.TheVariants.{BadName, TooMany}
use Rattle.ac_statement.specs.Reading.{◌>>=◌, quoted_at, wants}
use Rattle.ac_tree.specs.declared.listed.Sought.{Sought}
use Rattle.ac_args.specs.EntryForms.{has_form, split}

-- An argument's used text. (Autoconf's manual, "The Autoconf Language")
abbrev pub text : Span → Result (List ℕ) ParseFault
text arg = quoted_at arg.at (used arg.text)

-- The entry that an argument names, without the blanks at its ends. (own)
unfoldable pub entry_of : Sought → Span → Result (List ℕ) ParseFault
entry_of kind arg = do
  t ← text arg
  _ ← wants (has_form kind (trimmed t)) (BadName arg.at)
  Ok (trimmed t)

-- What the entries of an argument must be, in the order of the faults: there is one, there are at most 256, and each has its
-- form. (own)
abbrev pub wanted : Sought → ℕ → List (List ℕ) → Result (Unit {0}) ParseFault
wanted kind at entries = do
  _ ← wants (nat_lt 0 (length entries)) (BadName at)
  _ ← wants (nat_le (length entries) 256) (TooMany at)
  wants (list_all (has_form kind) entries) (BadName at)

-- The entries that a text at offset `at` lists. (own)
abbrev pub entries_in : Sought → ℕ → List ℕ → Result (List (List ℕ)) ParseFault
entries_in kind at t = do
  _ ← wanted kind at (split kind t)
  Ok (split kind t)

-- The entries that an argument lists. (Autoconf's manual, the sections of the macros)
unfoldable pub entries_of : Sought → Span → Result (List (List ℕ)) ParseFault
entries_of kind arg = text arg >>= entries_in kind arg.at
