use Rattle.port_statements.specs.Statements.{BeginsOutside, MayBegin}
use Rattle.port_statements.proofs.Listed.{of_none}
use Rattle.port_statements.proofs.lists.statements_in.Goals as goal

pub push_all-requires-clause-cuts : goal.push_all-requires-clause-cuts
push_all-requires-clause-cuts c = of_none (BeginsOutside c.args.text.now) _ c.new.ensures.items

pub push_all-requires-clause-offsets : goal.push_all-requires-clause-offsets
push_all-requires-clause-offsets c = of_none (MayBegin c.args.text.now) _ c.new-3.ensures.items
