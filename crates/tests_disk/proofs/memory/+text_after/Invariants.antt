use Rattle.std.proofs.Common.{length}
use Rattle.tests_disk.proofs.memory.+text_after.Given as goal

abbrev pub decreases-text_after : goal.decreases-text_after
decreases-text_after l = length l.steps.now
