use Rattle.std.proofs.Common.{◌≡◌, ◌++◌, map, drop}
use Rattle.lint_macros.specs.Values.{listed}
use Rattle.lint_macros.proofs.filling.put_list.Given as goal

abbrev pub invariant-loop-i : goal.invariant-loop-i
invariant-loop-i l = l.out.items ++ listed (map (λ a. a.now) (drop l.i l.args)) ≡ l.initial.out.items ++ listed (map (λ a. a.now) l.args)
