use Rattle.header_template.proofs.Held.{none_in_order}
use Rattle.header_template.proofs.Tables.{made}
use Rattle.header_template.proofs.table.table_of.Goals as goal

pub add_all-requires : goal.add_all-requires
add_all-requires c = none_in_order c.new-table.result.entries c.new-table.ensures.empty

pub returns : goal.returns
returns c = made c.args.entries.now c.new-table.result.entries _ c.new-table.ensures.empty c.in_ok-add_all.ensures.entries c.in_ok-add_all.ensures.order
