use Rattle.std.proofs.Common.{length}
use Rattle.tests_disk.proofs.memory.+kind_after.Given as goal

abbrev pub decreases-kind_after : goal.decreases-kind_after
decreases-kind_after l = length l.steps.now
