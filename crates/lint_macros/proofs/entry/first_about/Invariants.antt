use Rattle.std.proofs.Common.{◌≡◌, map, drop}
use Rattle.lint_macros.specs.Entries.{first_about}
use Rattle.lint_macros.proofs.entry.first_about.Given as goal

abbrev pub invariant-loop-row : goal.invariant-loop-row
invariant-loop-row l = first_about l.name (map (λ r. r.now) (drop l.row-index l.rows)) ≡ first_about l.name (map (λ r. r.now) l.rows)
