use Rattle.std.proofs.Common.{List}
use Rattle.lint_sources.specs.Warned.{AreFound, parts_to}
use Rattle.lint_findings.specs.declared.finding.Finding.{Finding}
use Rattle.lint_sources.proofs.warnings.add_templates.Given as goal

abbrev pub invariant-sheets : goal.invariant-sheets
invariant-sheets g l = (old : List Finding) → AreFound (g.W.Warner.finds l.warner l.text l.reading l.sheets l.given) old (parts_to 0) l.fn.out.items
    → AreFound (g.W.Warner.finds l.warner l.text l.reading l.sheets l.given) old (parts_to l.index) l.out.items
