use Rattle.ac_tree.proofs.ScriptLemmas.{check_is}
use Rattle.ac_tree.specs.Script.{Done}
use Rattle.ac_tree.proofs.tree.cache_check.Goals as goal

pub returns : goal.returns
returns c = check_is c.args.message c.args.name c.args.commands Done
