use Rattle.template.proofs.Laws.{Fills-only, filled-Fills}
use Rattle.template.proofs.filling.has_one_filled_text.Goals as goal

pub returns-clause-filled : goal.returns-clause-filled
returns-clause-filled c = filled-Fills c.args.table.now c.longest_key.ensures.shell_names c.args.text.now

pub returns-clause-unique : goal.returns-clause-unique
returns-clause-unique c = Fills-only c.args.table.now c.longest_key.ensures.shell_names c.args.text.now
