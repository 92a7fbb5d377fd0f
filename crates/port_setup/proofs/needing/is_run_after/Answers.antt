use Rattle.port_setup.specs.Needed.{IsRunAfter}
use Rattle.port_setup.proofs.needing.is_run_after.Goals as goal

pub loop-init : goal.loop-init
loop-init c = IsRunAfter.begun
