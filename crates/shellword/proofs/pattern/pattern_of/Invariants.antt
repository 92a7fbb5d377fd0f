use Rattle.std.proofs.Common.{◌≡◌, drop}
use Rattle.shellword.specs.Pieces.{pieces_of}
use Rattle.shellword.proofs.PatternLists.{with_front}
use Rattle.shellword.proofs.pattern.pattern_of.Given as goal

abbrev pub invariant-loop-part : goal.invariant-loop-part
invariant-loop-part l = with_front l.pieces.items (pieces_of (drop l.part-index l.parts)) ≡ pieces_of l.parts
