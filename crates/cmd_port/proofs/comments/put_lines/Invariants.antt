use Rattle.std.proofs.Common.{◌≡◌, ◌++◌, map, take}
use Rattle.std.specs.List.{flat_map}
use Rattle.cmd_port.specs.Ported.{comment_line}
use Rattle.cmd_port.proofs.comments.put_lines.Given as goal

abbrev pub invariant-loop-i : goal.invariant-loop-i
invariant-loop-i l = l.out.items ≡ l.initial.out.items ++ flat_map comment_line (map (λ t. t.now) (take l.i l.lines))
