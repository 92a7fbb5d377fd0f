use Rattle.std.proofs.Common.{rules}
use Rattle.deftable.proofs.Copies.{copied_more, copied_end, shell_name_at}
use Rattle.output_make.proofs.filling.table_of.Goals as goal

pub set-requires : goal.set-requires
set-requires c = shell_name_at c.args.vars.now c.names.i _ c.len-i-end.ensures.names c.at.ensures.entry

pub names-preserved : goal.names-preserved
names-preserved c = copied_more c.args.vars.now c.names.table c.set.new.self c.names.i _ c.len-i-end.ensures.distinct c.at.ensures.entry c.names.invariant c.in_ok-set.ensures.ok

pub returns : goal.returns
returns c = copied_end c.args.vars.now c.names.table c.names.i (search rules) c.names.invariant
