use Rattle.std.proofs.Common.{rules}
use Rattle.port_parts.specs.Places.{AreSpaces}
use Rattle.port_breaks.specs.Breaks as specs
use Rattle.port_breaks.proofs.breaks.may_break_after.Goals as goal

pub returns-then-ends_part : goal.returns-then-ends_part
returns-then-ends_part c = λ is.
    let spaces : AreSpaces c.args.text.now c.args.start c.args.end = search rules in
    let ends : specs.EndsPart c.args.text.now c.args.end = search rules in
    specs.MayBreak.after c.args.from (c.is_told_between.ensures is) spaces ends
