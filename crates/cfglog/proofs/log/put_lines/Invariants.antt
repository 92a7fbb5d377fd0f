use Rattle.std.proofs.Common.{◌≡◌, ◌++◌, codes, flat_map, map}
use Rattle.cfglog.specs.Texts.{closed}
use Rattle.cfglog.proofs.log.put_lines.Given as goal

abbrev pub invariant-loop-line : goal.invariant-loop-line
invariant-loop-line l = l.text.items ≡ l.fn.text.items ++ flat_map (λ line. codes "| " ++ closed line) (map (λ line. line.now) l.yielded)
