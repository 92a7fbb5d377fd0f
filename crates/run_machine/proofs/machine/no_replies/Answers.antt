use Rattle.std.proofs.Common.{◌≡◌, ◌∙◌, ap, replicate, None, arith}
use Rattle.run_machine.proofs.machine.no_replies.Goals as goal

pub returns : goal.returns
returns c =
    let n : c.loop.counter ≡ c.args.count = omega arith in
    c.loop.invariant ∙ ap (λ k. replicate k None) n
