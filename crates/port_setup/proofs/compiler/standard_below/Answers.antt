use Rattle.port_setup.proofs.Below.{standard}
use Rattle.port_setup.proofs.compiler.standard_below.Goals as goal

pub returns : goal.returns
returns c = standard (λ v. v.items) c.lines_below.result c.args.indent.now c.standard_said.result.now c.standard_text.result.now c.standard_said.ensures c.standard_text.ensures c.requires c.lines_below.ensures
