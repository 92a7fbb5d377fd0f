-- Nothing was made so far.
use Rattle.std.proofs.Common.{[]}
use Rattle.file_disk.specs.Known.{Adds}
use Rattle.file_texts.proofs.writing.make_beside.Given as goal

abbrev pub invariant-loop-number : goal.invariant-loop-number
invariant-loop-number g l = Adds (g.D.Disk.known l.initial.disk) (g.D.Disk.known l.disk) []
