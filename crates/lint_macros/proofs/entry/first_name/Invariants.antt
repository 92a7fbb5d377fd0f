use Rattle.std.proofs.Common.{◌≡◌, map, drop}
use Rattle.lint_macros.specs.Entries.{first_name}
use Rattle.lint_macros.proofs.entry.first_name.Given as goal

abbrev pub invariant-loop-one : goal.invariant-loop-one
invariant-loop-one l = first_name l.kind l.name (map (λ n. n.now) (drop l.one-index l.known)) ≡ first_name l.kind l.name (map (λ n. n.now) l.known)
