use Rattle.std.proofs.Common.{◌≡◌, [], fold, map, take}
use Rattle.cmd_why.specs.Nearest as specs
use Rattle.cmd_why.specs.Views.{near_seen}
use Rattle.cmd_why.proofs.nearest.nearest_among.Given as goal

abbrev pub invariant-loop-check : goal.invariant-loop-check
invariant-loop-check l =
    map near_seen l.nearest.items ≡ fold (λ nearest message. specs.offered nearest message (specs.distance_to l.word message)) [] (map (λ check. check.message.now) (take l.check-index l.checks))
