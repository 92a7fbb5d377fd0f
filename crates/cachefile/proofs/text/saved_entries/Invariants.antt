use Rattle.std.proofs.Common.{◌≡◌, ◌≤◌, drop, length, map}
use Rattle.cachefile.specs.Text.{saved_entries, AreInOrder}
use Rattle.cachefile.proofs.Lent.{seen}
use Rattle.cachefile.proofs.text.saved_entries.Given as goal

abbrev pub invariant-indices : goal.invariant-indices
invariant-indices l = (l.left ≤ length l.vars) × (map seen l.sorted.entries ≡ saved_entries (drop l.left l.vars)) × AreInOrder (map seen l.sorted.entries)

abbrev pub decreases-indices : goal.decreases-indices
decreases-indices l = l.left
