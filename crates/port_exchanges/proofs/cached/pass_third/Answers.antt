use Rattle.ac_calls.specs.Calls.{calls_in}
use Rattle.port_passes.proofs.Steps.{has_call}
use Rattle.port_exchanges.proofs.cached.pass_third.Goals as goal

pub pass_result-requires-clause-after : goal.pass_result-requires-clause-after
pass_result-requires-clause-after c = has_call c.args.calls.now (calls_in c.args.text.now) c.args.third c.index-calls-third.result c.requires.calls c.if-third-calls.true c.index-calls-third.is
