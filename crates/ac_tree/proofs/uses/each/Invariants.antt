use Rattle.std.proofs.Common.{◌≡◌, map, take}
use Rattle.ac_tree.specs.TestNames.{sought_name}
use Rattle.ac_tree.proofs.uses.each.Given as goal

abbrev pub invariant-loop-entry : goal.invariant-loop-entry
invariant-loop-entry l = l.names.items ≡ map (sought_name l.sought) (take l.entry-index l.entries)
