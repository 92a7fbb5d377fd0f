use Rattle.std.proofs.Common.{◌≡◌, map, drop}
use Rattle.cmd_why.specs.Nearest as specs
use Rattle.cmd_why.proofs.nearest.without_prefix_of.Given as goal

abbrev pub invariant-loop-prefix : goal.invariant-loop-prefix
invariant-loop-prefix l =
    specs.without_prefix_of (map (λ p. p.now) (drop l.prefix-index l.prefixes)) l.word ≡ specs.without_prefix_of (map (λ p. p.now) l.prefixes) l.word
