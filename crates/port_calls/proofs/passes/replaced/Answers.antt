use Rattle.std.proofs.Common.{subst, sym}
use Rattle.port_passes.specs.Rewritten as specs
use Rattle.port_calls.proofs.Steps.{pass_more}
use Rattle.port_calls.proofs.passes.replaced.Goals as goal

pub loop-init : goal.loop-init
loop-init c = subst (specs.IsRewritten c.args.idioms c.args.text.now) (sym c.in_ok-out.ensures.items) specs.IsRewritten.same

pub loop-preserved : goal.loop-preserved
loop-preserved c =
    pass_more c.args.idioms (λ v. v.items) c.args.text.now c.loop.out.items c.as_slice.result.now c.in_ok-next.field-0 c.in-Some.next c.in-Some.is c.as_slice.ensures.value c.in_ok-next.ensures c.loop.invariant
