use Rattle.ac_calls.specs.Calls.{calls_in}
use Rattle.port_shell.proofs.Testing.{has_call}
use Rattle.port_shell.proofs.files.is_compiler_at.Goals as goal

pub is_compiler_before-requires : goal.is_compiler_before-requires
is_compiler_before-requires c = has_call c.args.calls.now (calls_in c.args.text.now) c.args.index c.index-calls-index.result c.requires c.if-index-calls.true c.index-calls-index.is
