use Rattle.std.proofs.Common.{◌≡◌, drop, map}
use Rattle.header_template.specs.Table.{with_all, AreInOrder}
use Rattle.header_template.proofs.Held.{seen}
use Rattle.header_template.proofs.table.add_all.Given as goal

abbrev pub invariant-loop-entry : goal.invariant-loop-entry
invariant-loop-entry l =
    (with_all (map seen l.table.entries) (drop l.entry-index l.entries) ≡ with_all (map seen l.fn.table.entries) l.entries) × AreInOrder (map seen l.table.entries)
