use Rattle.std.proofs.Common.{refl, map, arith}
use Rattle.ac_calls.specs.Calls.{macro_call_of}
use Rattle.port_setup.specs.Needed.{AreLookedFor, IsLookedFor}
use Rattle.port_setup.proofs.Each.{each_at, each_done}
use Rattle.port_setup.proofs.needing.are_looked_for.Goals as goal

pub loop-i-preserved : goal.loop-i-preserved
loop-i-preserved c =
    each_at c.args.headers.now (λ header. header.now) (IsLookedFor c.args.text.now (map macro_call_of c.args.calls.now) c.args.start) c.loop-i.i _ c.loop-i-test.true c.loop-i.invariant (c.if-not-is_looked_for.ensures refl)

pub returns : goal.returns
unfolding AreLookedFor
returns c =
    λ _. each_done c.args.headers.now (λ header. header.now) (IsLookedFor c.args.text.now (map macro_call_of c.args.calls.now) c.args.start) c.loop-i.i (omega (arith, c.loop-i-test.false)) c.loop-i.invariant
