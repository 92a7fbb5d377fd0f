-- Readings: a value, or the error that is found first.
use Rattle.std.specs.Prelude.{◌≡◌, ℕ, ◌+◌, Result, Ok, Err}
use Rattle.fallible.specs.Reading.{GivesBy}
use Rattle.m4quote.specs.declared.fault.QuoteFault.{QuoteFault}
use Rattle.m4quote.specs.declared.fault.QuoteFault.TheVariants as quote
use Rattle.ac_statement.specs.declared.fault.ParseFault.{ParseFault}
use Rattle.shellword.specs.declared.fault.ShellFault.{ShellFault}
use Rattle.shellword.specs.declared.fault.ShellFault.TheVariants as shell
use Rattle.ac_statement.specs.declared.fault.ParseFault.TheVariants.{Quote, Shell, OutOfMemory}
pub use Rattle.fallible.specs.Reading.{◌>>=◌, wants}

-- The reading fails with this error; running out of memory is no error of the text. (own)
abbrev pub Fails : {Y : Type 0} → ParseFault → Result Y ParseFault → Type 0
Fails OutOfMemory read = Unit {0}
Fails f read = read ≡ Err f

-- The function returned what the reading gives, as view shows it, or ran out of memory. (own)
abbrev pub Gives : {X Y : Type 0} → (X → Y) → Result X ParseFault → Result Y ParseFault → Type 0
Gives view given read = GivesBy Fails view given read

-- The error of a text that begins at base, with its offset in the source. (own)
abbrev pub moved : ℕ → QuoteFault → QuoteFault
moved base (quote.UnclosedQuote at) = quote.UnclosedQuote (base + at)
moved base (quote.UnclosedParen at) = quote.UnclosedParen (base + at)
moved base (quote.StrayClose at) = quote.StrayClose (base + at)
moved base (quote.Nul at) = quote.Nul (base + at)
moved base f = f

-- An error of quoting, as an error of the source. (own)
abbrev pub quote_fault : QuoteFault → ParseFault
quote_fault quote.OutOfMemory = OutOfMemory
quote_fault f = Quote f

-- A reading of quotes in the source. (own)
abbrev pub quoted : {A : Type 0} → Result A QuoteFault → Result A ParseFault
quoted (Ok x) = Ok x
quoted (Err f) = Err (quote_fault f)

-- A reading of quotes in a text that begins at base. (own)
abbrev pub quoted_at : {A : Type 0} → ℕ → Result A QuoteFault → Result A ParseFault
quoted_at base (Ok x) = Ok x
quoted_at base (Err f) = Err (quote_fault (moved base f))

-- An error of shell text, as an error of the source at the offset of the text. (own)
abbrev pub shell_fault : ℕ → ShellFault → ParseFault
shell_fault at shell.OutOfMemory = OutOfMemory
shell_fault at f = Shell f at

-- A reading of shell text that begins at an offset. (own)
abbrev pub shell_at : {A : Type 0} → ℕ → Result A ShellFault → Result A ParseFault
shell_at at (Ok x) = Ok x
shell_at at (Err f) = Err (shell_fault at f)
