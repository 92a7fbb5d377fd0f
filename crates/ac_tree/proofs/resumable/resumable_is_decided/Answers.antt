use Rattle.ac_tree.proofs.Deciding.{script_decided}
use Rattle.ac_tree.proofs.resumable.resumable_is_decided.Goals as goal

pub returns : goal.returns
returns c = λ own tested script. script_decided own tested script
