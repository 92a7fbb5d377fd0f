-- Readings: a value, or the error that is found first.
use Rattle.std.specs.Prelude.{◌≡◌, Result, Err}
use Rattle.fallible.specs.Reading.{GivesBy}
use Rattle.options_line.specs.declared.fault.OptionFault.{OptionFault}
use Rattle.options_line.specs.declared.fault.OptionFault.TheVariants.{OutOfMemory}
pub use Rattle.fallible.specs.Reading.{◌>>=◌}

-- The reading fails with this error; running out of memory is no error of the text. (own)
abbrev pub Fails : {A : Type 0} → OptionFault → Result A OptionFault → Type 0
Fails OutOfMemory read = Unit {0}
Fails fault read = read ≡ Err fault

-- The function returned what the reading gives, as view shows it, or ran out of memory. (own)
abbrev pub Gives : {A B : Type 0} → (A → B) → Result A OptionFault → Result B OptionFault → Type 0
Gives view given read = GivesBy Fails view given read
