use Rattle.lint_findings.specs.Within.{KeepsWithin}
use Rattle.lint_templates.proofs.files.warn_of_runs.Given as goal

abbrev pub invariant-loop-run : goal.invariant-loop-run
invariant-loop-run l = KeepsWithin l.file l.text l.initial.out.items l.out.items
