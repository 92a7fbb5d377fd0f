use Rattle.port_setup.proofs.Below.{flags}
use Rattle.port_setup.proofs.compiler.flags_below.Goals as goal

pub returns : goal.returns
returns c = flags (λ v. v.items) c.lines_below.result c.args.indent.now c.flags_said.result.now c.flags_text.result.now c.flags_said.ensures c.flags_text.ensures c.requires c.lines_below.ensures
