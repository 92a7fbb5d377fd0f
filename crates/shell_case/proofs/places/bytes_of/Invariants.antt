use Rattle.std.proofs.Common.{◌≡◌, map, take}
use Rattle.shell_case.specs.Parts.{byte_of}
use Rattle.shell_case.proofs.places.bytes_of.Given as goal

abbrev pub invariant-loop-piece : goal.invariant-loop-piece
invariant-loop-piece l = l.bytes.items ≡ map byte_of (take l.piece-index l.pieces)
