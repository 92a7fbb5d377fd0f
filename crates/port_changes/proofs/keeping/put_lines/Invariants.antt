use Rattle.std.proofs.Common.{◌≡◌, ◌++◌, map, take}
use Rattle.std.specs.List.{flat_map}
use Rattle.port_spots.specs.Put.{comment_line}
use Rattle.port_changes.proofs.keeping.put_lines.Given as goal

abbrev pub invariant-loop-line : goal.invariant-loop-line
invariant-loop-line l = l.out.items ≡ l.initial.out.items ++ flat_map (comment_line l.indent) (map (λ n. n.now) (take l.line-index l.lines))
