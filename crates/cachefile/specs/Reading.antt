-- Readings: a value, or the error that is found first.
use Rattle.std.specs.Prelude.{◌≡◌, Result, Err}
use Rattle.fallible.specs.Reading.{GivesBy}
use Rattle.cachefile.specs.declared.fault.CacheFault.{CacheFault}
use Rattle.cachefile.specs.declared.fault.CacheFault.TheVariants.{OutOfMemory}
pub use Rattle.fallible.specs.Reading.{◌>>=◌}

-- The reading fails with this error; running out of memory is no error of the text. (own)
abbrev pub Fails : {A : Type 0} → CacheFault → Result A CacheFault → Type 0
Fails OutOfMemory read = Unit {0}
Fails fault read = read ≡ Err fault

-- The function returned what the reading gives, or ran out of memory. (own)
abbrev pub Gives : {A : Type 0} → Result A CacheFault → Result A CacheFault → Type 0
Gives given read = GivesBy Fails (λ x. x) given read
