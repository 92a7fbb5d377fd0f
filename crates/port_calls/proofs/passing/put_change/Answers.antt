use Rattle.ac_calls.specs.Calls.{macro_call_of}
use Rattle.std.proofs.Common.{arith, refl, subst, sym}
use Rattle.port_spots.specs.Put.{MayPut}
use Rattle.port_passes.proofs.Steps.{on_ok}
use Rattle.port_calls.proofs.Steps.{pass_step}
use Rattle.port_calls.proofs.passing.put_change.Goals as goal

pub returns : goal.returns
returns c = on_ok (pass_step c.args.idioms _ _ _ (macro_call_of c.args.call.now) _ _ _ _ _ c.requires.begun c.requires.call c.requires.goes (subst (MayPut c.args.idioms c.args.text.now (macro_call_of c.args.call.now)) (sym c.as_slice.ensures.value) c.requires.put) (omega (arith, c.if-change-pass.false)) (c.if-not-is_around.ensures refl)) c.write_change.result c.write_change.ensures
