use Rattle.std.proofs.Common.{◌≡◌, ◌==◌, ◌++◌, drop}
use Rattle.plan.specs.Code.{code_of_programs}
use Rattle.plan.proofs.emit.emit_programs.Given as goal

abbrev pub invariant-loop-i : goal.invariant-loop-i
invariant-loop-i l =
    l.code ≡ code_of_programs l.variable (drop l.i l.programs) (l.i == 0) ++ l.fn.code
