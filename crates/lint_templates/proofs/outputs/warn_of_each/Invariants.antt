use Rattle.lint_findings.specs.Within.{KeepsWithin}
use Rattle.lint_templates.proofs.outputs.warn_of_each.Given as goal

abbrev pub invariant-loop-output : goal.invariant-loop-output
invariant-loop-output l = KeepsWithin 0 l.text l.initial.out.items l.out.items
