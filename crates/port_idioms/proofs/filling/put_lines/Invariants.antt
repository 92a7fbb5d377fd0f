use Rattle.std.proofs.Common.{◌≡◌, ◌++◌, map, take}
use Rattle.std.specs.List.{flat_map}
use Rattle.port_idioms.specs.Filled.{filled_next}
use Rattle.port_idioms.proofs.filling.put_lines.Given as goal

abbrev pub invariant-loop-text : goal.invariant-loop-text
invariant-loop-text l = l.out.items ≡ l.initial.out.items ++ flat_map (filled_next (map (λ a. a.now) l.args) l.indent) (map (λ t. t.now) (take l.text-index l.more))
