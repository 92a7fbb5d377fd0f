use Rattle.std.proofs.Common.{◌≡◌, ℕ, List, Bor, map, drop}
use Rattle.cmd_call.specs.Calls.{window_among}
use Rattle.cmd_call.proofs.call.find.Given as goal

abbrev seen : List (Bor (List ℕ) × ℕ) → List (List ℕ × ℕ)
seen rows = map (λ row. (row.0.now, row.1)) rows

abbrev pub invariant-loop-row : goal.invariant-loop-row
invariant-loop-row l = window_among l.word (seen (drop l.row-index l.rows)) ≡ window_among l.word (seen l.rows)
