use Rattle.shell_case.proofs.Shared.{shared_on, shared_end}
use Rattle.std.proofs.Common.{arith}
use Rattle.shell_case.proofs.fronts.shared_len.Goals as goal

pub loop-i-init : goal.loop-i-init
loop-i-init c = shared_on c.args.known c.args.whole.now c.args.text.now c.requires.known

pub returns : goal.returns
returns c = shared_end c.loop-i.i _ c.args.whole.now c.args.text.now c.loop-i.invariant (omega (arith, c.loop-i-test.false)) (omega arith)
