use Rattle.lint_findings.specs.Within.{KeepsWithin}
use Rattle.lint_templates.proofs.files.warn_of_names.Given as goal

abbrev pub invariant-loop-piece : goal.invariant-loop-piece
invariant-loop-piece l = KeepsWithin l.file l.text l.initial.out.items l.out.items
