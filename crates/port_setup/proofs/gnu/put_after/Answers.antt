use Rattle.ac_calls.specs.Calls.{macro_call_of}
use Rattle.std.proofs.Common.{arith}
use Rattle.port_passes.proofs.Steps.{on_ok}
use Rattle.port_setup.proofs.Steps.{gnu_step}
use Rattle.port_setup.proofs.gnu.put_after.Goals as goal

pub returns : goal.returns
returns c =
    on_ok (gnu_step c.args.idioms c.args.text.now _ _ (macro_call_of c.args.call.now) _ _ _ c.requires.begun c.requires.call c.requires.all c.requires.compiler c.requires.sets (omega (arith, c.if-call-pass.false)) (omega (arith, c.if-text-call.false)))
    c.write_change.result c.write_change.ensures
