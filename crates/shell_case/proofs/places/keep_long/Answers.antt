use Rattle.std.proofs.Common.{◌∙◌, arith}
use Rattle.std.proofs.lemmas.List.{take_all}
use Rattle.shell_case.proofs.Flags.{keep_one_more, keep_long_len}
use Rattle.shell_case.proofs.places.keep_long.Goals as goal

pub loop-i-preserved : goal.loop-i-preserved
loop-i-preserved c =
    c.in_ok-push.ensures.items
    ∙ keep_one_more c.args.len c.args.flags.now c.loop-i.kept.items c.args.lens.now c.loop-i.i _ c.is_kept.result _ c.requires c.loop-i-test.true c.loop-i.invariant c.is_kept.ensures

pub returns : goal.returns
returns c = c.loop-i.invariant ∙ take_all c.loop-i.i _ (omega (arith, keep_long_len c.args.len c.args.flags.now c.args.lens.now c.requires, c.loop-i-test.false))
