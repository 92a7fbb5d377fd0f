use Rattle.std.proofs.Common.{length, All}
use Rattle.lint_all.specs.Found.{AreAmong, IsErrorOf}
use Rattle.lint_all.proofs.joining.joined.Given as goal

abbrev pub invariant-loop : goal.invariant-loop
invariant-loop l = record {
  among : AreAmong l.fn.errors.items l.out.items;
  errors : All (IsErrorOf (length l.text)) l.out.items;
  rest : All (IsErrorOf (length l.text)) l.rest.items;
}
