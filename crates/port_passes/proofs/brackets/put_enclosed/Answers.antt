use Rattle.ac_calls.specs.Calls.{macro_call_of}
use Rattle.std.proofs.Common.{arith, refl, ◌∙◌}
use Rattle.port_passes.proofs.Steps.{on_ok, enclose_step}
use Rattle.port_passes.proofs.brackets.put_enclosed.Goals as goal

pub returns : goal.returns
returns c =
    on_ok (enclose_step c.args.idioms c.args.text.now _ _ (macro_call_of c.args.call.now) c.args.index c.args.arg c.args.end _ _ _ c.requires.begun c.requires.call c.requires.does c.requires.arg (omega (arith, c.if-arg-pass.false))
    (record { place = c.requires.place.0; whole = c.whole_of-whole.result; all = c.whole_of-whole.ensures.0; alone = c.if-not-is_bare_alone.ensures refl; blank = c.requires.place.1 }, c.requires.place.0.0, omega (arith, c.requires.place.0.1, c.requires.place.0.2))
    (c.as_slice.ensures.value ∙ c.in_ok-put.ensures)) c.write_change.result c.write_change.ensures
