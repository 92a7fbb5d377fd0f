use Rattle.std.proofs.Common.{◌≡◌, ◌++◌, flat_map, map, take}
use Rattle.cmd_why.specs.Shown as specs
use Rattle.cmd_why.specs.Views.{check_seen}
use Rattle.cmd_why.proofs.showing.put_checks.Given as goal

abbrev pub invariant-loop-check : goal.invariant-loop-check
invariant-loop-check l = l.out.items ≡ l.fn.out.items ++ flat_map (specs.check_text l.seen) (map check_seen (take l.check-index l.checks))
