use Rattle.lint_all.specs.Found.{KeepsErrors}
use Rattle.lint_all.proofs.rounds.add_rounds.Given as goal

abbrev pub invariant-loop : goal.invariant-loop
invariant-loop l = KeepsErrors l.whole.len l.initial.found.items l.found.items
