use Rattle.ac_resumable.proofs.NameLists.{one_added, one_grown}
use Rattle.ac_resumable.proofs.tested.Tested.add_one.Goals as goal

pub returns-clause-added : goal.returns-clause-added
returns-clause-added c = one_added c.add.result c.args.self.now c.add.new.self c.args.name.now c.add.ensures

pub returns-clause-grown : goal.returns-clause-grown
returns-clause-grown c = one_grown c.add.result c.args.self.now c.add.new.self c.args.name.now c.add.ensures
