use Rattle.std.proofs.Common.{◌≡◌, ◌≤◌, drop, length, map, reverse}
use Rattle.cachefile.specs.Text.{saved_entries}
use Rattle.cachefile.proofs.Lent.{seen}
use Rattle.cachefile.proofs.text.near_entries.Given as goal

abbrev pub invariant-names : goal.invariant-names
invariant-names l = (l.left ≤ length l.vars) × (map seen (reverse l.list.items) ≡ saved_entries (drop l.left l.vars))

abbrev pub decreases-names : goal.decreases-names
decreases-names l = l.left
