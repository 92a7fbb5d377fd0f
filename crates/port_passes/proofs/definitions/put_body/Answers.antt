use Rattle.ac_calls.specs.Calls.{macro_call_of}
use Rattle.std.proofs.Common.{arith, refl}
use Rattle.port_passes.proofs.Steps.{on_ok, write_step}
use Rattle.port_passes.proofs.definitions.put_body.Goals as goal

pub returns : goal.returns
returns c =
    on_ok (write_step c.args.idioms c.args.text.now _ _ (macro_call_of c.args.d.now) c.args.name.now c.args.body.now c.args.at _ _ c.requires.begun c.requires.defined c.requires.defines (omega (arith, c.if-at-d.false)) (c.if-not-is_name_at.ensures.yes refl) (omega (arith, c.if-at-pass.false)) (c.if-not-is_name_at.ensures.fits refl))
    c.write_change.result c.write_change.ensures
