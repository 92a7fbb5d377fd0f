use Rattle.ac_calls.specs.Calls.{macro_call_of}
use Rattle.std.proofs.Common.{arith}
use Rattle.port_passes.proofs.Steps.{on_ok, unused_step}
use Rattle.port_passes.proofs.definitions.drop_unused.Goals as goal

pub returns : goal.returns
returns c =
    on_ok (unused_step c.args.idioms c.args.text.now _ _ (macro_call_of c.args.d.now) c.args.name.now _ _ c.requires.begun c.requires.defined c.requires.unused (omega (arith, c.if-d-pass.false)) (omega (arith, c.if-d.false)) (omega (arith, c.if-text-d.false)))
    c.write_change.result c.write_change.ensures
