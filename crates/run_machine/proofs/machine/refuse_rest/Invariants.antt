use Rattle.std.proofs.Common.{◌≡◌, ◌++◌, take, drop}
use Rattle.run_test.specs.Waits.{refused_rest}
use Rattle.run_machine.proofs.machine.refuse_rest.Given as goal

abbrev pub invariant-loop-reply : goal.invariant-loop-reply
invariant-loop-reply l = l.replies ≡ refused_rest (take l.reply-index l.fn.replies) ++ drop l.reply-index l.fn.replies
