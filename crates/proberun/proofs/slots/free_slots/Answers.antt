use Rattle.std.proofs.Common.{◌≡◌, ◌∙◌, ap, replicate, None, arith}
use Rattle.proberun.proofs.TableLemmas.{free_replicate}
use Rattle.proberun.proofs.slots.free_slots.Goals as goal

pub returns : goal.returns
returns c =
    let n : c.loop.counter ≡ c.args.window = omega arith in
    free_replicate _ _ (c.loop.invariant ∙ ap (λ k. replicate k None) n)
