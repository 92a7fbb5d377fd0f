use Rattle.std.proofs.Common.{take}
use Rattle.lint_sources.specs.Differing.{ArePrinted}
use Rattle.lint_sources.proofs.differing.page_of_differences.Given as goal

abbrev pub invariant-findings : goal.invariant-findings
invariant-findings l = ArePrinted (take l.finding-index l.found) l.page.items
