use Rattle.std.proofs.Common.{◌≡◌}
use Rattle.lint_excerpts.proofs.object.put_numbered.Given as goal

abbrev pub invariant-loop-start : goal.invariant-loop-start
invariant-loop-start l = l.draft ≡ l.fn.draft
