use Rattle.std.proofs.Common.{◌≡◌, flat_map, map}
use Rattle.template.specs.Header.{headed_line}
use Rattle.template.proofs.header.fill_header.Given as goal

abbrev pub invariant-loop-line : goal.invariant-loop-line
invariant-loop-line l = l.made.items ≡ flat_map (headed_line l.fn.definitions) (map (λ line. line.now) l.yielded)
