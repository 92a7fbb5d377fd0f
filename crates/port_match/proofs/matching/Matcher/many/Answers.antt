use Rattle.std.proofs.Common.{◌≡◌, Some, None, sym, ◌∙◌}
use Rattle.port_match.proofs.Rounds.{many_stops, many_goes, none_of, some_of}
use Rattle.port_match.proofs.matching.Matcher.many.Goals as goal

pub returns-then-not-are_next : goal.returns-then-not-are_next
returns-then-not-are_next c =
    many_stops c.args.parts.now c.loop-turn.turn-index c.args.pieces.now _ _ c.loop-turn-test.true c.loop-turn.invariant (sym c.are_next.ensures ∙ c.if-not-are_next.true)

pub returns-in-None : goal.returns-in-None
returns-in-None c =
    sym (many_goes c.args.parts.now c.loop-turn.turn-index c.args.pieces.now _ _ None c.loop-turn-test.true c.loop-turn.invariant (sym c.are_next.ensures ∙ c.if-not-are_next.false) (none_of _ _ _ c.in-None.is c.in_ok-taken.ensures))

pub loop-turn-preserved : goal.loop-turn-preserved
loop-turn-preserved c =
    many_goes c.args.parts.now c.loop-turn.turn-index c.args.pieces.now _ _ (Some _) c.loop-turn-test.true c.loop-turn.invariant (sym c.are_next.ensures ∙ c.if-not-are_next.false) (some_of _ _ _ _ c.in-Some.is c.in_ok-taken.ensures)
