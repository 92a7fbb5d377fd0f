use Rattle.ac_calls.specs.Calls.{macro_call_of}
use Rattle.std.proofs.Common.{arith, ◌∙◌}
use Rattle.port_passes.proofs.Steps.{on_ok, name_step}
use Rattle.port_passes.proofs.names.put_name.Goals as goal

pub returns : goal.returns
returns c =
    on_ok (name_step c.args.idioms c.args.text.now _ _ (macro_call_of c.args.call.now) _ _ _ c.requires.begun c.requires.call c.requires.names (omega (arith, c.if-call-pass.false)) (omega (arith, c.if-call.false)) (omega (arith, c.if-text-call.false))
    (c.as_slice.ensures.value ∙ c.in_ok-put.ensures)) c.write_change.result c.write_change.ensures
