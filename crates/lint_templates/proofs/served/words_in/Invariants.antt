use Rattle.std.proofs.Common.{◌≡◌, ℕ, List, Bor, map, drop}
use Rattle.lint_templates.specs.Served.{words_among}
use Rattle.lint_templates.proofs.served.words_in.Given as goal

abbrev seen : List (Bor (List ℕ) × Bor (List ℕ) × Bor (List ℕ)) → List (List ℕ × List ℕ × List ℕ)
seen rows = map (λ row. (row.0.now, row.1.now, row.2.now)) rows

abbrev pub invariant-loop-row : goal.invariant-loop-row
invariant-loop-row l = words_among l.name (seen (drop l.row-index l.rows)) ≡ words_among l.name (seen l.rows)
