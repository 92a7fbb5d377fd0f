use Rattle.ac_calls.specs.Calls.{macro_call_of}
use Rattle.std.proofs.Common.{arith, refl, ◌∙◌}
use Rattle.port_passes.proofs.Steps.{on_ok, turn_step}
use Rattle.port_passes.proofs.output.put_first.Goals as goal

pub returns : goal.returns
returns c =
    on_ok (turn_step c.args.idioms c.args.text.now _ _ (macro_call_of c.args.call.now) c.args.start c.args.end _ _ _ c.requires.begun c.requires.call c.requires.all c.requires.output (omega (arith, c.if-call-pass.false))
    (c.if-not-is_around.ensures refl).2 (c.if-not-is_around.ensures refl).0 (c.if-not-are_messages.ensures refl) (c.as_slice.ensures.value ∙ c.in_ok-put.ensures)) c.write_change.result c.write_change.ensures
