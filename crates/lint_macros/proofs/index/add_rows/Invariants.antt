use Rattle.std.proofs.Common.{◌≡◌, ℕ, List, map, drop}
use Rattle.lint_macros.specs.Index.{said_first}
use Rattle.lint_macros.proofs.index.add_rows.Given as goal

abbrev pub invariant-loop-i : goal.invariant-loop-i
invariant-loop-i l = (n : List ℕ) → said_first l.names.entries (map (λ r. r.now) (drop l.i l.rows)) n ≡ said_first l.initial.names.entries (map (λ r. r.now) l.rows) n
