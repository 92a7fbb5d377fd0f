use Rattle.std.proofs.Common.{◌≡◌, replicate, None}
use Rattle.run_machine.proofs.machine.no_replies.Given as goal

abbrev pub invariant-loop : goal.invariant-loop
invariant-loop l = l.replies.items ≡ replicate l.counter None
