use Rattle.std.proofs.Common.{arith}
use Rattle.port_idioms.proofs.Rowed.{counted}
use Rattle.port_idioms.proofs.rows.text_after.Goals as goal

pub returns-then-count-most : goal.returns-then-count-most
returns-then-count-most c = counted c.args.counts.now _ _ c.in_ok-least.least c.in_ok-most.most c.args.count c.in_ok-least.ensures c.in_ok-most.ensures (omega (arith, c.if-least-count.true)) (omega (arith, c.if-count-most.true))
