use Rattle.std.proofs.Common.{rules}
use Rattle.port_parts.specs.Places.{AreSpaces}
use Rattle.port_breaks.specs.Breaks as specs
use Rattle.port_breaks.proofs.breaks.may_break_before.Goals as goal

pub returns-then-begins : goal.returns-then-begins
returns-then-begins c = λ is.
    let spaces : AreSpaces c.args.text.now c.args.start c.args.end = search rules in
    let begins : specs.Begins c.args.text.now c.args.start c.args.end = search rules in
    specs.MayBreak.before c.args.to spaces begins (c.is_told_between.ensures is)
