use Rattle.std.proofs.Common.{◌≡◌, ◌++◌, map, take}
use Rattle.output_make.specs.Choice.{chosen}
use Rattle.output_make.specs.Making.{made_of}
use Rattle.output_make.proofs.filling.add_each.Given as goal

abbrev pub invariant-outputs : goal.invariant-outputs
invariant-outputs l = l.artifacts ≡ l.fn.artifacts ++ map (made_of l.made l.recorded l.templates) (chosen l.tags (take l.output-index l.outputs))
