use Rattle.template.proofs.Fronts.{begins_here, begins_later}
use Rattle.template.proofs.table.Table.starts_key.Goals as goal

pub returns-then-starts_with-clause-exact : goal.returns-then-starts_with-clause-exact
returns-then-starts_with-clause-exact c =
    begins_here c.self.inside.entries c.args.self.now c.loop-i.i c.args.text.now _ _ _ c.self.view_is c.at.ensures.entry c.starts_with.ensures.value c.if-starts_with.true c.loop-i.invariant

pub loop-i-preserved : goal.loop-i-preserved
loop-i-preserved c =
    begins_later c.self.inside.entries c.args.self.now c.loop-i.i c.args.text.now _ _ _ c.self.view_is c.at.ensures.entry c.starts_with.ensures.value c.if-starts_with.false c.loop-i.invariant
