use Rattle.ac_calls.specs.Calls.{calls_in}
use Rattle.port_passes.proofs.Steps.{has_call}
use Rattle.port_passes.proofs.definitions.pass_spot.Goals as goal

pub pass_name-requires-clause-defined : goal.pass_name-requires-clause-defined
pass_name-requires-clause-defined c = has_call c.args.calls.now (calls_in c.args.text.now) c.args.spot.index c.index-calls-spot.result c.requires.calls c.if-spot-calls.true c.index-calls-spot.is
