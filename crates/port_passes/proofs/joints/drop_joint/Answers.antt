use Rattle.ac_calls.specs.Calls.{macro_call_of}
use Rattle.port_passes.proofs.Steps.{on_ok, part_step}
use Rattle.port_passes.proofs.joints.drop_joint.Goals as goal

pub returns : goal.returns
returns c = on_ok (part_step c.args.idioms c.args.text.now _ _ (macro_call_of c.args.call.now) c.args.at _ _ c.requires.begun c.requires.call c.requires.joins c.requires.place.0) c.write_change.result c.write_change.ensures
