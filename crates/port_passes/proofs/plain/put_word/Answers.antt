use Rattle.std.proofs.Common.{arith, refl}
use Rattle.port_passes.proofs.Steps.{on_ok, word_step}
use Rattle.port_passes.proofs.plain.put_word.Goals as goal

pub returns : goal.returns
returns c =
    on_ok (word_step c.args.idioms c.args.text.now _ _ c.args.spot.start c.args.spot.end c.args.name.now c.args.word.now c.args.at _ _ c.requires.begun c.requires.defines (omega (arith, c.if-at-spot.false)) (c.if-not-is_plain_use.ensures.yes refl) (omega (arith, c.if-at-pass.false)) (c.if-not-is_plain_use.ensures.fits refl))
    c.write_change.result c.write_change.ensures
