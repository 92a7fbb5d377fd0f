use Rattle.std.proofs.Common.{rules}
use Rattle.deftable.proofs.Copies.{copied_more, copied_end}
use Rattle.deftable.proofs.table.copy_of.Goals as goal

pub names-preserved : goal.names-preserved
names-preserved c = copied_more c.args.table.now c.names.copy c.set.new.self c.names.i _ c.len-i-end.ensures.distinct c.at.ensures c.names.invariant c.in_ok-set.ensures.ok

pub returns : goal.returns
returns c = copied_end c.args.table.now c.names.copy c.names.i (search rules) c.names.invariant
