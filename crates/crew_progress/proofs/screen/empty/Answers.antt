use Rattle.std.proofs.Common.{refl}
use Rattle.crew_progress.proofs.Cutting.{nothing_shown}
use Rattle.crew_progress.proofs.screen.empty.Goals as goal

pub returns : goal.returns
returns g c = nothing_shown g.row.N _ _ c.new.ensures refl
