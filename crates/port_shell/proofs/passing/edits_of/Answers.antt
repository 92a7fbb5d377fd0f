use Rattle.port_statements.specs.Statements.{BeginsOutside}
use Rattle.port_shell.proofs.Steps.{of_each}
use Rattle.port_shell.proofs.passing.edits_of.Goals as goal

pub edit_of-requires-clause-begins : goal.edit_of-requires-clause-begins
edit_of-requires-clause-begins c = of_each (BeginsOutside c.args.text.now) c.args.cuts.now c.loop-i.i c.index-cuts-i.result c.requires c.loop-i-test.true c.index-cuts-i.is
