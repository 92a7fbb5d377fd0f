use Rattle.std.proofs.Common.{◌≡◌, map, drop, nat_eq}
use Rattle.std.specs.List.{list_any, starts_with}
use Rattle.run_fingerprint.proofs.feeding.begins_with_any.Given as goal

abbrev pub invariant-loop-front : goal.invariant-loop-front
invariant-loop-front l =
    list_any (λ front. starts_with nat_eq l.variable front) (map (λ front. front.now) (drop l.front-index l.fronts)) ≡ list_any (λ front. starts_with nat_eq l.variable front) (map (λ front. front.now) l.fronts)
