use Rattle.ac_calls.specs.Calls.{macro_call_of}
use Rattle.std.proofs.Common.{arith, refl, ◌∙◌}
use Rattle.port_passes.proofs.Steps.{on_ok, line_step}
use Rattle.port_passes.proofs.lines.put_line.Goals as goal

pub returns : goal.returns
returns c =
    on_ok (line_step c.args.idioms c.args.text.now _ _ (macro_call_of c.args.call.now) c.args.end c.args.indent.now _ _ _ c.requires.begun c.requires.call c.requires.ends (omega (arith, c.if-call-pass.false)) (c.if-not-are_spaces_after.ensures refl) c.requires.indent
    (c.as_slice.ensures.value ∙ c.in_ok-put.ensures)) c.write_change.result c.write_change.ensures
