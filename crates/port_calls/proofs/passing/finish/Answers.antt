use Rattle.port_calls.proofs.Steps.{pass_end}
use Rattle.port_calls.proofs.passing.finish.Goals as goal

pub returns : goal.returns
returns c = pass_end c.args.idioms c.extend_from_slice.result c.args.text.now c.args.pass.now.at c.args.pass.now.out.items _ c.requires.begun c.extend_from_slice.ensures.items
