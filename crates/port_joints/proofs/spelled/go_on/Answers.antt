use Rattle.port_joints.proofs.Becoming.{on_ok}
use Rattle.port_joints.proofs.Spelling.{spelled_step}
use Rattle.port_joints.proofs.spelled.go_on.Goals as goal

pub returns : goal.returns
returns c =
    on_ok (spelled_step c.args.text.now _ _ c.args.at c.args.operator.now c.args.next c.args.put.now _ _ c.requires.begun c.requires.is c.requires.spells c.requires.place) c.write_spelled.result c.write_spelled.ensures
