use Rattle.std.proofs.Common.{◌≡◌, ◌+◌, map, drop}
use Rattle.cmd_why.specs.Nearest as specs
use Rattle.cmd_why.specs.Views.{near_seen}
use Rattle.cmd_why.proofs.nearest.rank_of.Given as goal

abbrev pub invariant-loop-near : goal.invariant-loop-near
invariant-loop-near l =
    (l.place + specs.rank_of l.distance (map near_seen (drop l.near-index l.nearest)) ≡ specs.rank_of l.distance (map near_seen l.nearest)) × (l.place ≡ l.near-index)
