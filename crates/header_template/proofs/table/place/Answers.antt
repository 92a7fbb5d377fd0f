use Rattle.header_template.proofs.Held.{placed, in_order_seen}
use Rattle.header_template.proofs.table.place.Goals as goal

pub returns-clause-entries : goal.returns-clause-entries
returns-clause-entries c =
    placed c.args.table.now.entries c.insert.new.self.entries c.in_ok-key.key c.in_ok-value.value c.args.name.now c.args.description.now c.in_ok-insert.ensures.entries c.in_ok-key.ensures.items c.in_ok-value.ensures.items

pub returns-clause-order : goal.returns-clause-order
returns-clause-order c = in_order_seen c.insert.new.self.entries c.insert.ensures.ordered
