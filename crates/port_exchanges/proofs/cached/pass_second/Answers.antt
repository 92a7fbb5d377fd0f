use Rattle.ac_calls.specs.Calls.{calls_in}
use Rattle.port_passes.proofs.Steps.{has_call}
use Rattle.port_exchanges.proofs.cached.pass_second.Goals as goal

pub pass_value-requires-clause-there : goal.pass_value-requires-clause-there
pass_value-requires-clause-there c = has_call c.args.calls.now (calls_in c.args.text.now) c.args.second c.index-calls-second.result c.requires.calls c.if-second-calls.true c.index-calls-second.is
