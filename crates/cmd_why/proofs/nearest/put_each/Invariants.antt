use Rattle.std.proofs.Common.{◌≡◌, ◌++◌, flat_map, map, take}
use Rattle.cmd_why.specs.Nearest as specs
use Rattle.cmd_why.specs.Views.{near_seen}
use Rattle.cmd_why.proofs.nearest.put_each.Given as goal

abbrev pub invariant-loop-near : goal.invariant-loop-near
invariant-loop-near l = l.out.items ≡ l.fn.out.items ++ flat_map specs.near_line (map near_seen (take l.near-index l.nearest))
