use Rattle.std.proofs.Common.{◌∙◌}
use Rattle.shellword.proofs.Values.{value_more, value_all}
use Rattle.shellword.proofs.value.value_of_parts.Goals as goal

pub loop-part-preserved : goal.loop-part-preserved
loop-part-preserved c =
    value_more c.loop-part.out.items c.push_value.new.out.items c.args.parts.now c.args.vars.now c.loop-part.part-index c.part-item.result _ c.loop-part-test.true c.part-item.is c.loop-part.invariant c.in_ok-push_value.ensures

pub returns : goal.returns
returns c = c.from_vec.ensures ∙ value_all c.loop-part.out.items c.args.parts.now c.args.vars.now c.loop-part.part-index _ c.loop-part-test.false c.loop-part.invariant
