use Rattle.ac_calls.specs.Calls.{calls_in}
use Rattle.port_shell.proofs.Testing.{has_call}
use Rattle.port_shell.proofs.conditions.is_call_test.Goals as goal

pub is_test_of_call-requires : goal.is_test_of_call-requires
is_test_of_call-requires c = has_call c.args.calls.now (calls_in c.args.text.now) c.args.index c.index-calls-index.result c.requires c.if-index-calls.true c.index-calls-index.is
