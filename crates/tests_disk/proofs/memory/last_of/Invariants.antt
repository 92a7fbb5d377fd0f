use Rattle.std.proofs.Common.{◌≡◌, ◌≤◌, length}
use Rattle.std.specs.Path.{rfind_below}
use Rattle.file_texts.specs.Names.{last_slash}
use Rattle.tests_disk.proofs.memory.last_of.Given as goal

abbrev pub invariant-loop-end : goal.invariant-loop-end
invariant-loop-end l = (rfind_below 47 l.name l.end ≡ last_slash l.name) × (l.end ≤ length l.name)

abbrev pub decreases-loop-end : goal.decreases-loop-end
decreases-loop-end l = l.end
