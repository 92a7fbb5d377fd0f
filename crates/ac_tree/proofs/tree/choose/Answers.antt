use Rattle.ac_tree.proofs.ScriptLemmas.{choice_is}
use Rattle.ac_tree.specs.Script.{Done}
use Rattle.ac_tree.proofs.tree.choose.Goals as goal

pub returns : goal.returns
returns c = choice_is c.args.declares c.args.subject c.args.cases Done
