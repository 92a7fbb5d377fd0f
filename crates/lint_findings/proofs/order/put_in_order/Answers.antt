use Rattle.std.proofs.Common.{rules, ◌≡◌}
use Rattle.std.proofs.lemmas.Fn.{always_returns_same}
use Rattle.lint_findings.proofs.order.put_in_order.Goals as goal

pub returns-clause-sorted : goal.returns-clause-sorted
returns-clause-sorted c = c.in_ok-sort_by_key.ensures.sorted (λ f. (f.file, f.start)) (always_returns_same _ (λ a r. r ≡ (a.0.now.file, a.0.now.start)) _ (λ a r q k. search rules))

pub returns-clause-stable : goal.returns-clause-stable
returns-clause-stable c = c.in_ok-sort_by_key.ensures.stable (λ f. (f.file, f.start)) (always_returns_same _ (λ a r. r ≡ (a.0.now.file, a.0.now.start)) _ (λ a r q k. search rules))
