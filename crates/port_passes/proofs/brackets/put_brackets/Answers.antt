use Rattle.ac_calls.specs.Calls.{macro_call_of}
use Rattle.std.proofs.Common.{arith, refl, ◌∙◌}
use Rattle.port_passes.proofs.Steps.{on_ok, bracket_step}
use Rattle.port_passes.proofs.brackets.put_brackets.Goals as goal

pub returns : goal.returns
returns c =
    on_ok (bracket_step c.args.idioms c.args.text.now _ _ (macro_call_of c.args.call.now) c.args.index c.args.arg c.args.end _ _ _ c.requires.begun c.requires.call c.requires.read c.requires.arg (omega (arith, c.if-arg-pass.false)) (c.if-not-is_bare.ensures refl)
    (c.as_slice.ensures.value ∙ c.in_ok-put.ensures)) c.write_change.result c.write_change.ensures
