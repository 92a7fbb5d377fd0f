use Rattle.std.proofs.Common.{◌≡◌}
use Rattle.acparse.specs.Bare.{assigned}
use Rattle.ac_tree.specs.Script.{joined, script_of}
use Rattle.acparse.proofs.bare.push_all.Given as goal

abbrev pub invariant-loop-assignment : goal.invariant-loop-assignment
invariant-loop-assignment l = script_of l.out.items ≡ joined (script_of l.fn.out.items) (assigned l.yielded)
