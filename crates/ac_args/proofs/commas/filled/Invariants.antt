use Rattle.std.proofs.Common.{◌≡◌, ◌++◌, drop, map}
use Rattle.ac_args.specs.Commas.{filled}
use Rattle.ac_args.proofs.commas.filled.Given as goal

abbrev pub invariant-loop-part : goal.invariant-loop-part
invariant-loop-part l = map (λ e. e.now) l.entries.items ++ filled (map (λ p. p.now) (drop l.part-index l.parts)) ≡ filled (map (λ p. p.now) l.parts)
