use Rattle.std.proofs.Common.{length}
use Rattle.std.proofs.lemmas.List.Sorted.{All-permutation}
use Rattle.lint_all.specs.Found.{IsErrorOf}
use Rattle.lint_all.proofs.Adding.{among_permuted}
use Rattle.lint_all.proofs.whole.with_others.Goals as goal

pub returns-clause-among : goal.returns-clause-among
returns-clause-among c = among_permuted c.args.errors.items c.in_ok-found.found.items c.put_in_order.new.findings.items c.in_ok-found.ensures.among c.put_in_order.ensures.permutation

pub returns-clause-errors : goal.returns-clause-errors
returns-clause-errors c = All-permutation (IsErrorOf (length c.args.text.now)) c.in_ok-found.found.items c.put_in_order.new.findings.items c.put_in_order.ensures.permutation c.in_ok-found.ensures.errors
