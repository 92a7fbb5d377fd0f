use Rattle.std.proofs.Common.{◌≡◌, ◌++◌, map, take}
use Rattle.header_template.proofs.words.add_rows.Given as goal

abbrev pub invariant-loop-row : goal.invariant-loop-row
invariant-loop-row l = l.list.items ≡ l.fn.list.items ++ map (λ row. (row.0.now, row.1.now)) (take l.row-index l.rows)
