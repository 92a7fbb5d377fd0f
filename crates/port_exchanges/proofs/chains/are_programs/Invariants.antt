use Rattle.std.proofs.Common.{◌≡◌, map, drop}
use Rattle.std.specs.List.{list_all}
use Rattle.port_passes.specs.Chains.{is_program}
use Rattle.port_exchanges.proofs.chains.are_programs.Given as goal

abbrev pub invariant-loop-word : goal.invariant-loop-word
invariant-loop-word l = list_all is_program (map (λ w. w.now) (drop l.word-index l.words)) ≡ list_all is_program (map (λ w. w.now) l.words)
