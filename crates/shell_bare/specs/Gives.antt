-- The answer of a call, compared with the value of a function on lists. A call may run out of memory instead of giving
-- any answer.
use Rattle.std.specs.Prelude.{◌≡◌, Result, Err}
use Rattle.fallible.specs.Reading.{GivesBy}
use Rattle.shell_bare.specs.declared.fault.BareFault.{BareFault}
use Rattle.shell_bare.specs.declared.fault.BareFault.TheVariants.{OutOfMemory}

-- The function has this error, or memory ran out. (own)
abbrev pub Fails : {Y : Type 0} → BareFault → Result Y BareFault → Type 0
Fails OutOfMemory read = Unit {0}
Fails f read = read ≡ Err f

-- What a call returned, as seen by `view`, is the value of the function, or memory ran out. (own)
abbrev pub Gives : {X Y : Type 0} → (X → Y) → Result X BareFault → Result Y BareFault → Type 0
Gives view given read = GivesBy Fails view given read
