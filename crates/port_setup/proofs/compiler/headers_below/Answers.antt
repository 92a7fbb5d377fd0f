use Rattle.port_setup.proofs.Below.{headers}
use Rattle.port_setup.proofs.compiler.headers_below.Goals as goal

pub returns : goal.returns
returns c = headers (λ v. v.items) c.lines_below.result c.args.indent.now c.headers_said.result.now c.headers_text.result.now c.headers_said.ensures c.headers_text.ensures c.requires c.lines_below.ensures
