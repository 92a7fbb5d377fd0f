use Rattle.std.proofs.Common.{◌≡◌, drop, map}
use Rattle.ac_tree.specs.Definitions.{sought_definition}
use Rattle.lint_templates.specs.Names.{with_all}
use Rattle.lint_templates.proofs.given.add_entries.Given as goal

abbrev pub invariant-loop-entry : goal.invariant-loop-entry
invariant-loop-entry l = with_all l.list (map (sought_definition l.sought) (drop l.entry-index l.entries)) ≡ with_all l.fn.list (map (sought_definition l.sought) l.entries)
