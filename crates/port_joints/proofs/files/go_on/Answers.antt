use Rattle.port_joints.proofs.Becoming.{on_ok}
use Rattle.port_joints.proofs.Asking.{turned_step}
use Rattle.port_joints.proofs.files.go_on.Goals as goal

pub returns : goal.returns
returns c =
    on_ok (turned_step c.args.text.now _ _ c.args.at c.args.letter _ _ c.requires.begun c.requires.is c.requires.place) c.write_turned.result c.write_turned.ensures
