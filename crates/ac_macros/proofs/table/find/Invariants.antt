use Rattle.std.proofs.Common.{◌≡◌, ℕ, Bool, List, Bor, map, drop}
use Rattle.ac_macros.specs.declared.macros.Named.{Named}
use Rattle.ac_macros.specs.Table.{row_among}
use Rattle.ac_macros.proofs.table.find.Given as goal

abbrev lines : List (Bor (List ℕ) × Named × ℕ × Bool) → List (List ℕ × Named × ℕ × Bool)
lines rows = map (λ e. (e.0.now, e.1, e.2, e.3)) rows

abbrev pub invariant-loop-row : goal.invariant-loop-row
invariant-loop-row l = row_among l.name (lines (drop l.row-index l.rows)) ≡ row_among l.name (lines l.rows)
