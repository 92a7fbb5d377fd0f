use Rattle.std.proofs.Common.{◌≡◌, map, take}
use Rattle.cmd_why.specs.Origins as specs
use Rattle.cmd_why.proofs.origins.lines_setting.Given as goal

abbrev pub invariant-loop-line : goal.invariant-loop-line
invariant-loop-line l =
    map (λ line. line.now) l.setting.items ≡ specs.lines_setting l.names (map (λ line. line.now) (take l.line-index l.lines))
