use Rattle.std.proofs.Common.{arith, refl}
use Rattle.port_passes.proofs.Steps.{on_ok, undefine_step}
use Rattle.port_passes.proofs.plain.drop_word.Goals as goal

pub returns : goal.returns
returns c =
    on_ok (undefine_step c.args.idioms c.args.text.now _ _ c.args.spot.start c.args.spot.end c.args.name.now c.args.word.now _ _ c.requires.begun c.requires.defines (c.if-is_used.ensures refl) (omega (arith, c.if-spot-pass.false)) (omega (arith, c.if-spot.false)) (omega (arith, c.if-text-spot.false)))
    c.write_change.result c.write_change.ensures
