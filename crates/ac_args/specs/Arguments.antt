-- The forms of arguments of calls: the value of each, or its error (Autoconf's manual, "The Autoconf Language"; the
-- forms themselves are own). Errors have the offset of the argument; those of quoting have their own offset.
use Rattle.std.specs.Prelude.{ℕ, Bool, true, not, List, Result, Ok, Err}
use Rattle.m4quote.specs.ItemValue.{Span}
use Rattle.m4quote.specs.Scan.{used}
use Rattle.m4quote.specs.declared.fault.QuoteFault.{QuoteFault}
use Rattle.deftable.specs.CacheName.{is_cache_name}
use Rattle.deftable.specs.ShellName.{is_shell_name_of}
use Rattle.text_cut.specs.Cuts.{trimmed}
use Rattle.ac_statement.specs.declared.fault.ParseFault.{ParseFault}
use Rattle.ac_statement.specs.declared.fault.ParseFault.TheVariants.{BadName}
use Rattle.ac_statement.specs.Reading.{◌>>=◌, quoted_at, wants}
use Rattle.ac_tree.specs.Texts.{is_empty}
use Rattle.ac_statement.specs.Texts.{is_line}

-- An argument's used text. (Autoconf's manual, "The Autoconf Language")
abbrev pub text : Span → Result (List ℕ) ParseFault
text arg = quoted_at arg.at (used arg.text)

-- The used text without the blanks at its ends. (own)
unfoldable pub trimmed_text : Span → Result (List ℕ) ParseFault
trimmed_text arg = text arg >>= λ t. Ok (trimmed t)

-- What was read, if it has this form. If not, the argument is in error. (own)
abbrev pub formed : Span → (List ℕ → Bool) → Result (List ℕ) ParseFault → Result (List ℕ) ParseFault
formed arg has_form read = do
  t ← read
  _ ← wants (has_form t) (BadName arg.at)
  Ok t

-- A shell name or a C identifier, which have the same form. (POSIX, "Name")
unfoldable pub name : Span → Result (List ℕ) ParseFault
name arg = formed arg is_shell_name_of (trimmed_text arg)

-- A shell name that contains `_cv_`. (Autoconf's manual, "Cache Variable Names")
unfoldable pub cache_name : Span → Result (List ℕ) ParseFault
cache_name arg = formed arg is_cache_name (name arg)

-- A text on one line, without the blanks at its ends. (own)
unfoldable pub title : Span → Result (List ℕ) ParseFault
title arg = formed arg is_line (trimmed_text arg)

-- A text on one line, with the blanks at its ends. (own)
unfoldable pub line : Span → Result (List ℕ) ParseFault
line arg = formed arg is_line (text arg)

-- The reading gives a text that is not empty, or fails. (own)
abbrev pub says_something : Result (List ℕ) QuoteFault → Bool
says_something (Ok t) = not (is_empty t)
says_something (Err f) = true

-- The argument is given: its used text is not empty, or its quotes have an error. (own)
unfoldable pub is_given : Span → Bool
is_given arg = says_something (used arg.text)
