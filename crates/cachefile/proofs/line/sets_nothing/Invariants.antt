use Rattle.std.proofs.Common.{◌≡◌, drop}
use Rattle.cachefile.specs.Line.{sets_nothing}
use Rattle.cachefile.proofs.line.sets_nothing.Given as goal

abbrev pub invariant-loop-byte : goal.invariant-loop-byte
invariant-loop-byte l = sets_nothing l.line ≡ sets_nothing (drop l.byte-index l.line)
