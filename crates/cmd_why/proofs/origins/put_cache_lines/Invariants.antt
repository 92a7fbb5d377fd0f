use Rattle.std.proofs.Common.{◌≡◌, ◌++◌, flat_map, map, take}
use Rattle.cmd_why.specs.Origins as specs
use Rattle.cmd_why.proofs.origins.put_cache_lines.Given as goal

abbrev pub invariant-loop-line : goal.invariant-loop-line
invariant-loop-line l = l.out.items ≡ l.fn.out.items ++ flat_map specs.cache_line (map (λ line. line.now) (take l.line-index l.lines))
