use Rattle.std.proofs.Common.{refl}
use Rattle.plan.proofs.Codes.{code_at_program}
use Rattle.plan.proofs.emit.emit_programs.Goals as goal

pub loop-i-preserved : goal.loop-i-preserved
loop-i-preserved c =
    code_at_program _ _ _ _ _ c.loop-i.i _ _ _ c.loop-i-test.true c.loop-i.auto.i refl c.index-programs-i.is refl c.in_ok-put.ensures c.loop-i.invariant
