use Rattle.std.proofs.Common.{◌≡◌, map, drop}
use Rattle.lint_macros.specs.Values.{are_plain}
use Rattle.lint_macros.proofs.plain.are_plain.Given as goal

abbrev pub invariant-loop-argument : goal.invariant-loop-argument
invariant-loop-argument l = are_plain (map (λ a. a.now) (drop l.argument-index l.args)) ≡ are_plain (map (λ a. a.now) l.args)
