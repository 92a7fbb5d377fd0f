use Rattle.ac_calls.specs.Calls.{calls_in, macro_call_of}
use Rattle.port_passes.proofs.Steps.{has_call}
use Rattle.port_passes.proofs.brackets.is_in_call.Goals as goal

pub returns-then-at-call-2 : goal.returns-then-at-call-2
returns-then-at-call-2 c =
    λ _. record { call = macro_call_of c.index-calls-i.result; is_there = has_call c.args.calls.now (calls_in c.args.text.now) c.loop-i.i c.index-calls-i.result c.requires.calls c.loop-i-test.true c.index-calls-i.is; order = (c.if-arg-call.true, c.if-at-call.false, c.if-at-call-2.true) }
