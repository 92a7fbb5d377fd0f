use Rattle.std.proofs.Common.{sym, ap}
use Rattle.shellword.proofs.PatternLists.{piece_more, piece_none, pieces_all}
use Rattle.shellword.specs.Listing.{pieces_or}
use Rattle.shellword.proofs.pattern.pattern_of.Goals as goal

pub loop-part-preserved : goal.loop-part-preserved
loop-part-preserved c =
    piece_more c.loop-part.pieces.items c.args.parts.now c.loop-part.part-index c.part-item.result _ c.loop-part.invariant c.loop-part-test.true c.part-item.is c.in-Some.piece c.push.new.self.items (sym c.in-Some.ensures) c.in_ok-push.ensures.items

pub returns-in_default : goal.returns-in_default
returns-in_default c =
    ap (pieces_or c.args.at) (piece_none c.loop-part.pieces.items c.args.parts.now c.loop-part.part-index c.part-item.result _ c.loop-part.invariant c.loop-part-test.true c.part-item.is (sym c.in_default.ensures))

pub returns : goal.returns
returns c = ap (pieces_or c.args.at) (pieces_all c.loop-part.pieces.items c.args.parts.now c.loop-part.part-index _ c.loop-part.invariant c.loop-part-test.false)
