use Rattle.std.proofs.Common.{◌≡◌, ◌++◌, map, take}
use Rattle.std.specs.List.{flat_map}
use Rattle.port_passes.specs.Chains.{next_program}
use Rattle.port_exchanges.proofs.chains.put_more.Given as goal

abbrev pub invariant-loop-word : goal.invariant-loop-word
invariant-loop-word l = l.out.items ≡ l.initial.out.items ++ flat_map (next_program l.indent l.name) (map (λ w. w.now) (take l.word-index l.more))
