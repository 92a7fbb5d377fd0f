use Rattle.std.proofs.Common.{◌≡◌, map, take}
use Rattle.port_spots.specs.Put.{arg_text}
use Rattle.port_spots.proofs.facts.texts.Given as goal

abbrev pub invariant-loop-arg : goal.invariant-loop-arg
invariant-loop-arg l = map (λ a. a.now) l.out.items ≡ map (arg_text l.text) (take l.arg-index l.args)
