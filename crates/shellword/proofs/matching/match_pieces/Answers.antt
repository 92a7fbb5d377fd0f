use Rattle.std.proofs.Common.{◌<◌, length, Some, None, arith}
use Rattle.shellword.proofs.Matcher.{at_end, at_star, at_taken, no_star, all_taken, back, step_at, with_star}
use Rattle.shellword.proofs.matching.match_pieces.Goals as goal

pub steps-preserved-in-Star : goal.steps-preserved-in-Star
steps-preserved-in-Star c =
    let pieces = c.args.pieces.now in
    let text = c.args.text.now in
    at_star pieces text c.steps.piece c.steps.at c.steps.star c.steps.invariant (step_at pieces text c.steps.piece c.steps.at _ c.in-Star.ensures)

pub steps-preserved-in-Taken : goal.steps-preserved-in-Taken
steps-preserved-in-Taken c =
    let pieces = c.args.pieces.now in
    let text = c.args.text.now in
    at_taken pieces text c.steps.piece c.steps.at c.steps.star c.steps.invariant (step_at pieces text c.steps.piece c.steps.at _ c.in-Taken.ensures)

pub returns-in-End : goal.returns-in-End
returns-in-End c =
    let pieces = c.args.pieces.now in
    let text = c.args.text.now in
    at_end pieces text c.steps.piece c.steps.at c.steps.star c.steps.invariant (step_at pieces text c.steps.piece c.steps.at _ c.in-End.ensures)

pub returns-in_default : goal.returns-in_default
returns-in_default c =
    let pieces = c.args.pieces.now in
    let text = c.args.text.now in
    no_star pieces text c.steps.piece c.steps.at (with_star pieces text c.steps.piece c.steps.at _ None c.in_default.is c.steps.invariant) (step_at pieces text c.steps.piece c.steps.at _ c.in-Stuck.ensures)

pub returns-then-start-text : goal.returns-then-start-text
returns-then-start-text c =
    let pieces = c.args.pieces.now in
    let text = c.args.text.now in
    all_taken pieces text c.steps.piece c.steps.at c.in-Some.first c.in-Some.start (with_star pieces text c.steps.piece c.steps.at _ (Some (c.in-Some.first, c.in-Some.start)) c.in-Some.is c.steps.invariant)
    (step_at pieces text c.steps.piece c.steps.at _ c.in-Stuck.ensures) c.if-start-text.true

pub steps-preserved : goal.steps-preserved
steps-preserved c =
    let pieces = c.args.pieces.now in
    let text = c.args.text.now in
    let s = with_star pieces text c.steps.piece c.steps.at _ (Some (c.in-Some.first, c.in-Some.start)) c.in-Some.is c.steps.invariant in
    back pieces text c.steps.piece c.steps.at c.in-Some.first c.in-Some.start s (step_at pieces text c.steps.piece c.steps.at _ c.in-Stuck.ensures) (let lt : c.in-Some.start < length text = omega (arith, s.in_text, s.after.0, c.if-start-text.false) in lt)
