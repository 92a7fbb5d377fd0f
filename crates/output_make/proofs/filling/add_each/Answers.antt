use Rattle.output_make.specs.Choice.{is_chosen}
use Rattle.output_make.specs.Making.{made_of}
use Rattle.output_make.proofs.Turns.{made_more, made_end}
use Rattle.output_make.proofs.filling.add_each.Goals as goal

pub outputs-preserved : goal.outputs-preserved
outputs-preserved c =
    made_more (made_of c.args.made c.args.recorded.now c.args.templates.now) (is_chosen c.args.tags.now) c.args.outputs.now c.outputs.output-index _ _ _ _ c.outputs-test.true c.output-item.is c.outputs.invariant c.in_ok-add_output.ensures

pub returns : goal.returns
returns c = made_end (made_of c.args.made c.args.recorded.now c.args.templates.now) (is_chosen c.args.tags.now) c.args.outputs.now c.outputs.output-index _ _ c.outputs-test.false c.outputs.invariant
