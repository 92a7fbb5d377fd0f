-- Each turn has read some bytes, once.
use Rattle.std.proofs.Common.{◌≡◌, false}
use Rattle.crew_launch.proofs.ChildLemmas.{HasRead}
use Rattle.crew_launch.proofs.diagnostics.diagnostics.Given as goal

abbrev pub invariant-loop : goal.invariant-loop
invariant-loop g l = HasRead l.initial.pipe.left l.pipe.left l.text.items l.counter × (l.pipe.reads ≡ l.counter) × (l.pipe.has_failed ≡ false)
