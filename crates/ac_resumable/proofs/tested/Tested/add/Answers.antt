use Rattle.std.proofs.Common.{ap, ◌∙◌}
use Rattle.deftable.specs.NameList.{with_name}
use Rattle.ac_resumable.proofs.NameLists.{insert_is}
use Rattle.ac_resumable.proofs.tested.Tested.add.Goals as goal

pub returns : goal.returns
returns c =
    c.in_ok-insert.ensures.keys ∙ insert_is c.self.inside.names.keys c.in_ok-name.name
    ∙ ap (λ n. with_name c.self.inside.names.keys n) c.in_ok-name.ensures.equal ∙ ap (λ t. with_name t c.args.name.now) c.self.view_is
