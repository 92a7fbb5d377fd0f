use Rattle.std.proofs.Common.{◌≡◌}
use Rattle.lint_excerpts.proofs.excerpt.put_help.Given as goal

abbrev pub invariant-loop-line : goal.invariant-loop-line
invariant-loop-line l = l.draft ≡ l.fn.draft
