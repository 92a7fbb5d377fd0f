use Rattle.std.proofs.Common.{◌≡◌, ℕ, List, Bor, map, drop}
use Rattle.options_line.specs.Arguments.{switch_among}
use Rattle.options_line.specs.declared.argument.Switch.{Switch}
use Rattle.options_line.proofs.argument.switch_among.Given as goal

abbrev lines : List (Bor (List ℕ) × Switch) → List (List ℕ × Switch)
lines rows = map (λ row. (row.0.now, row.1)) rows

abbrev pub invariant-loop-row : goal.invariant-loop-row
invariant-loop-row l = switch_among l.argument (lines (drop l.row-index l.rows)) ≡ switch_among l.argument (lines l.rows)
