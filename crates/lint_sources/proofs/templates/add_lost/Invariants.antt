use Rattle.std.proofs.Common.{take}
use Rattle.std.specs.List.{list_any}
use Rattle.lint_sources.specs.Missing.{AreAdded, is_lost}
use Rattle.lint_sources.proofs.templates.add_lost.Given as goal

abbrev pub invariant-outputs : goal.invariant-outputs
invariant-outputs l = AreAdded (list_any (is_lost l.templates) (take l.output-index l.outputs)) l.fn.found.items l.found.items
