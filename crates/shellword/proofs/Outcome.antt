-- An error that is passed on, and what it says about the function that returned it.
use Rattle.std.proofs.Common.{◌≡◌, Result, Err}
use Rattle.shellword.specs.declared.fault.ShellFault.{ShellFault}
use Rattle.shellword.specs.declared.fault.ShellFault.TheVariants.{OutOfMemory}
use Rattle.shellword.specs.Gives.{Fails}

-- an error that is passed on
pub fails_along : {X Y : Type 0} (f : ShellFault) (read : Result X ShellFault) (total : Result Y ShellFault) → (read ≡ Err f → total ≡ Err f) → Fails f read → Fails f total
fails_along OutOfMemory read total on e = tt
fails_along f read total on e = on e
