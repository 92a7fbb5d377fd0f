use Rattle.std.proofs.Common.{arith}
use Rattle.ac_calls.proofs.Laid.{spelled_placed}
use Rattle.ac_calls.proofs.finding.placed_at.Goals as goal

pub returns-in-Ok-clause-placed : goal.returns-in-Ok-clause-placed
returns-in-Ok-clause-placed c = spelled_placed c.in-Ok.ensures.sound.spells (omega (arith, c.requires))
