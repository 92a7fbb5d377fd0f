use Rattle.std.proofs.Common.{◌≡◌, map}
use Rattle.lint_sources.specs.Listed.{unworded}
use Rattle.lint_sources.proofs.reasons.add_each.Given as goal

abbrev pub invariant-loop-error : goal.invariant-loop-error
invariant-loop-error l = map unworded l.errors ≡ map unworded l.fn.errors
