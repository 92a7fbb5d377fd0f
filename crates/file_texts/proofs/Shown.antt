-- Lines without control bytes.
use Rattle.std.proofs.Common.{[], arith}
use Rattle.crew_refusals.specs.Shown.{IsShown}

pub none : IsShown []
none k d lt = absurd (omega arith)
