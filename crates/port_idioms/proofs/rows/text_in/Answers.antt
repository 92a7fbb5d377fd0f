use Rattle.port_idioms.proofs.Rowed.{in_row}
use Rattle.port_idioms.proofs.rows.text_in.Goals as goal

pub returns-in-Some : goal.returns-in-Some
returns-in-Some c = in_row (λ t. t.now) c.text_after.result c.args.row.now c.args.name.now c.in-Some.counts.now c.args.count c.in-Some.ensures c.text_after.ensures
