use Rattle.std.proofs.Common.{sym}
use Rattle.ac_tree.specs.Script.{script_of}
use Rattle.ac_tree.proofs.ScriptLemmas.{joined_done}
use Rattle.acparse.proofs.Texts.{assign_more}
use Rattle.acparse.proofs.bare.push_all.Goals as goal

pub loop-assignment-init : goal.loop-assignment-init
loop-assignment-init c = sym (joined_done (script_of c.args.out.now.items))

pub loop-assignment-preserved : goal.loop-assignment-preserved
loop-assignment-preserved c = assign_more _ _ _ _ c.in-Some.assignment c.in_ok-push.ensures.items c.loop-assignment.invariant
