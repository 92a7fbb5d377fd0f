use Rattle.std.proofs.Common.{◌∙◌}
use Rattle.header_template.proofs.Held.{has_seen}
use Rattle.header_template.proofs.table.has.Goals as goal

pub returns : goal.returns
returns c = c.contains_key.ensures ∙ has_seen c.args.table.now.entries c.args.name.now
