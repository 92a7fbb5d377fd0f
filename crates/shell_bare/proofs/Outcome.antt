-- An error that is passed on, and what it says about the function that returned it.
use Rattle.std.proofs.Common.{◌≡◌, Result, Err}
use Rattle.shell_bare.specs.declared.fault.BareFault.{BareFault}
use Rattle.shell_bare.specs.declared.fault.BareFault.TheVariants.{OutOfMemory}
use Rattle.shell_bare.specs.Gives.{Fails}

-- an error that is passed on
pub fails_along : {X Y : Type 0} (f : BareFault) (read : Result X BareFault) (total : Result Y BareFault) → (read ≡ Err f → total ≡ Err f) → Fails f read → Fails f total
fails_along OutOfMemory read total on e = tt
fails_along f read total on e = on e
