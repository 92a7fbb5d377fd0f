use Rattle.std.proofs.Common.{◌≡◌, drop}
use Rattle.ac_tree.specs.Script.{script_of}
use Rattle.engine_frame.specs.Shown.{version_line}
use Rattle.engine_frame.proofs.showing.version_line.Given as goal

abbrev pub invariant-statements : goal.invariant-statements
invariant-statements l = version_line (script_of (drop l.i l.statements)) ≡ version_line (script_of l.fn.statements)
