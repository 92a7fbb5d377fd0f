use Rattle.std.proofs.Common.{◌∙◌, ap, map}
use Rattle.cachefile.proofs.Lent.{seen, placed_seen, in_order_seen}
use Rattle.cachefile.proofs.text.insert.Goals as goal

pub returns-clause-entries : goal.returns-clause-entries
returns-clause-entries c = ap (map seen) c.in_ok-insert.ensures.entries ∙ placed_seen c.args.sorted.now.entries c.args.name c.args.value

pub returns-clause-order : goal.returns-clause-order
returns-clause-order c = in_order_seen c.insert.new.self.entries c.insert.ensures.ordered
