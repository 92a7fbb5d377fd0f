use Rattle.std.proofs.Common.{◌≡◌, ◌++◌, drop, map}
use Rattle.header_template.specs.Mentions.{sought_mention}
use Rattle.header_template.proofs.mentions.add_entries.Given as goal

abbrev pub invariant-loop-entry : goal.invariant-loop-entry
invariant-loop-entry l = l.list.items ++ map (sought_mention l.sought) (drop l.entry-index l.entries) ≡ l.fn.list.items ++ map (sought_mention l.sought) l.entries
