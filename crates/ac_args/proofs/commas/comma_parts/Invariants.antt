use Rattle.std.proofs.Common.{◌≡◌, ◌≤◌, map}
use Rattle.ac_args.specs.Commas.{comma_parts}
use Rattle.ac_args.proofs.PartsLoop.{parts_with}
use Rattle.ac_args.proofs.commas.comma_parts.Given as goal

abbrev pub invariant-loop-at : goal.invariant-loop-at
invariant-loop-at l = record {
  begun : l.start ≤ l.at;
  shallow : l.depth ≤ l.at;
  so_far : parts_with (map (λ p. p.now) l.parts.items) l.text l.start l.at l.depth ≡ comma_parts l.text;
}
