use Rattle.std.proofs.Common.{◌≡◌, ◌++◌, map, take}
use Rattle.std.specs.List.{flat_map}
use Rattle.port_idioms.specs.Filled.{filled_sign}
use Rattle.port_idioms.proofs.filling.put_signs.Given as goal

abbrev pub invariant-loop-text : goal.invariant-loop-text
invariant-loop-text l = l.out.items ≡ l.initial.out.items ++ flat_map (filled_sign (map (λ a. a.now) l.args)) (map (λ t. t.now) (take l.text-index l.texts))
