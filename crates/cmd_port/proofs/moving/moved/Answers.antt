use Rattle.std.proofs.Common.{subst, sym}
use Rattle.std.specs.Prelude.{option_map}
use Rattle.cmd_port.specs.Asked.{package_of}
use Rattle.cmd_port.specs.Ported as specs
use Rattle.cmd_port.proofs.Steps.{step_more}
use Rattle.cmd_port.proofs.moving.moved.Goals as goal

pub loop-init : goal.loop-init
loop-init c = subst (specs.IsMoved c.args.idioms (option_map package_of c.args.naming) c.args.text.now) (sym c.in_ok-out.ensures.items) specs.IsMoved.same

pub loop-preserved : goal.loop-preserved
loop-preserved c =
    step_more c.args.idioms (option_map package_of c.args.naming) (λ v. v.items) c.args.text.now c.loop.out.items c.as_slice.result.now c.in_ok-next.field-0 c.in-Some.next c.in-Some.is c.as_slice.ensures.value c.in_ok-next.ensures c.loop.invariant
