use Rattle.std.proofs.Common.{ap, ◌∙◌}
use Rattle.deftable.specs.NameList.{has_name}
use Rattle.ac_resumable.proofs.NameLists.{any_has}
use Rattle.ac_resumable.proofs.tested.Tested.has.Goals as goal

pub returns : goal.returns
returns c = c.contains.ensures ∙ any_has c.self.inside.names.keys c.args.name.now ∙ ap (λ t. has_name t c.args.name.now) c.self.view_is
