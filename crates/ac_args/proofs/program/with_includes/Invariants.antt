use Rattle.std.proofs.Common.{◌≡◌, ◌++◌, drop, map}
use Rattle.ac_args.specs.Programs.{lines_with_includes}
use Rattle.ac_args.proofs.program.with_includes.Given as goal

abbrev pub invariant-loop-i : goal.invariant-loop-i
invariant-loop-i l = l.out.items ++ lines_with_includes (map (λ n. n.now) (drop l.i l.lines.items)) ≡ lines_with_includes (map (λ n. n.now) l.lines.items)
