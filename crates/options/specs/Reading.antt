-- Readings of precious variables: a value, or the fault that is found first.
use Rattle.std.specs.Prelude.{◌≡◌, Result, Err}
use Rattle.fallible.specs.Reading.{GivesBy}
use Rattle.options.specs.declared.fault.PreciousFault.{PreciousFault}
use Rattle.options.specs.declared.fault.PreciousFault.TheVariants.{OutOfMemory}
pub use Rattle.fallible.specs.Reading.{◌>>=◌}

-- The reading fails with this fault; running out of memory is no fault of a variable. (own)
abbrev pub Fails : {A : Type 0} → PreciousFault → Result A PreciousFault → Type 0
Fails OutOfMemory read = Unit {0}
Fails fault read = read ≡ Err fault

-- The function returned what the reading gives, as view shows it, or ran out of memory. (own)
abbrev pub Gives : {A B : Type 0} → (A → B) → Result A PreciousFault → Result B PreciousFault → Type 0
Gives view given read = GivesBy Fails view given read
