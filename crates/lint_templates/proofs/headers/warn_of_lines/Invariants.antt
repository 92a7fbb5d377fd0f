use Rattle.lint_findings.specs.Within.{KeepsWithin}
use Rattle.lint_templates.proofs.headers.warn_of_lines.Given as goal

abbrev pub invariant-loop-line : goal.invariant-loop-line
invariant-loop-line l = KeepsWithin l.file l.text l.initial.out.items l.out.items
