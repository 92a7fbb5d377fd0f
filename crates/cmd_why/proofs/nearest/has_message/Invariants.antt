use Rattle.std.proofs.Common.{◌≡◌, map, drop}
use Rattle.cmd_why.specs.Nearest as specs
use Rattle.cmd_why.specs.Views.{near_seen}
use Rattle.cmd_why.proofs.nearest.has_message.Given as goal

abbrev pub invariant-loop-near : goal.invariant-loop-near
invariant-loop-near l =
    specs.has_message l.message (map near_seen (drop l.near-index l.nearest)) ≡ specs.has_message l.message (map near_seen l.nearest)
