use Rattle.std.proofs.Common.{refl, subst}
use Rattle.port_parts.specs.Places as specs
use Rattle.port_parts.proofs.Steps.{on_some}
use Rattle.port_parts.proofs.lines.end_above.Goals as goal

pub returns : goal.returns
returns c =
    on_some (λ b is ends. specs.EndsComment.more b ends is.1 (subst (λ line. specs.AddsNoComment c.args.text.now line c.args.newline) is.0 (c.if-not-adds_no_comment.ensures refl))) c.newline_before.result c.newline_before.ensures
