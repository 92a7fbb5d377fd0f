use Rattle.std.proofs.Common.{refl, subst, map, arith}
use Rattle.ac_calls.specs.Calls.{macro_call_of}
use Rattle.port_passes.proofs.Steps.{has_call}
use Rattle.port_setup.specs.Needed.{IsRunAfter}
use Rattle.port_setup.proofs.needing.after_call.Goals as goal

pub returns-then-call-at : goal.returns-then-call-at
returns-then-call-at c =
    IsRunAfter.called (macro_call_of c.index-calls-i.result) (subst (IsRunAfter c.args.text.now (map macro_call_of c.args.calls.now) c.args.start) (omega (arith, c.if-call-at.true)) c.requires)
    (has_call c.args.calls.now (map macro_call_of c.args.calls.now) c.loop-i.i c.index-calls-i.result refl c.loop-i-test.true c.index-calls-i.is)
