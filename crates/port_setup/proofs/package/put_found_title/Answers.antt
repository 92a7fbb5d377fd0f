use Rattle.ac_calls.specs.Calls.{calls_in}
use Rattle.std.proofs.Common.{arith}
use Rattle.port_passes.proofs.Steps.{has_call}
use Rattle.port_setup.proofs.package.put_found_title.Goals as goal

pub put_title-requires-clause-there : goal.put_title-requires-clause-there
put_title-requires-clause-there c = has_call c.args.calls.now (calls_in c.args.text.now) _ c.index-calls-i.result c.requires.calls (omega (arith, c.if-calls-i.false)) c.index-calls-i.is
