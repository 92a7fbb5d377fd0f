use Rattle.bstr.specs.Text.{lines_of}
use Rattle.template.proofs.Directives.{lines_are_made, one_made_text}
use Rattle.template.proofs.header.has_one_header.Goals as goal

pub returns-clause-made : goal.returns-clause-made
returns-clause-made c = lines_are_made c.args.definitions.now (lines_of c.args.text.now)

pub returns-clause-unique : goal.returns-clause-unique
returns-clause-unique c made is = one_made_text c.args.definitions.now (lines_of c.args.text.now) made is
