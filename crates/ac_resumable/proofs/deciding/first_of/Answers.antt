use Rattle.ac_resumable.proofs.NameLists.{first_is}
use Rattle.ac_resumable.proofs.deciding.first_of.Goals as goal

pub returns : goal.returns
returns c = first_is c.args.names.now c.min.result c.min.ensures
