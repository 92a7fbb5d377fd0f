use Rattle.std.proofs.Common.{◌≡◌, take}
use Rattle.crew.proofs.memory.copied.Given as goal

abbrev pub invariant-loop-reply : goal.invariant-loop-reply
invariant-loop-reply l = l.all.items ≡ take l.reply-index l.replies
