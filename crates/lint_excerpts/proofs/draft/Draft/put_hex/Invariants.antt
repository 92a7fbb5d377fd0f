use Rattle.std.proofs.Common.{◌≡◌}
use Rattle.lint_excerpts.proofs.draft.Draft.put_hex.Given as goal

abbrev pub invariant-loop-byte : goal.invariant-loop-byte
invariant-loop-byte l = l.self ≡ l.fn.self
