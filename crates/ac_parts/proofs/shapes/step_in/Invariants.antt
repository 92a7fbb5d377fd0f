use Rattle.std.proofs.Common.{◌≡◌, drop}
use Rattle.ac_parts.specs.Shapes.{step_in}
use Rattle.ac_parts.proofs.shapes.step_in.Given as goal

abbrev pub invariant-loop-step : goal.invariant-loop-step
invariant-loop-step l = step_in (drop l.step-index l.steps) l.of l.from l.child ≡ step_in l.steps l.of l.from l.child
