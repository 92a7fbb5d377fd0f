use Rattle.std.proofs.Common.{◌≡◌}
use Rattle.lint_excerpts.proofs.draft.Draft.put_times.Given as goal

abbrev pub invariant-loop : goal.invariant-loop
invariant-loop l = l.self ≡ l.fn.self
