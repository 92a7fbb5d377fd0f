use Rattle.ac_calls.specs.Calls.{macro_call_of}
use Rattle.std.proofs.Common.{arith, refl}
use Rattle.port_passes.proofs.Steps.{on_ok}
use Rattle.port_calls.proofs.Steps.{help_step}
use Rattle.port_calls.proofs.passing.put_help.Goals as goal

pub returns : goal.returns
returns c = on_ok (help_step c.args.idioms _ _ _ (macro_call_of c.args.call.now) _ _ _ _ c.requires.begun c.requires.call c.requires.declares (omega (arith, c.if-start-pass.false)) (c.if-not-is_old_help.ensures refl)) c.write_change.result c.write_change.ensures
