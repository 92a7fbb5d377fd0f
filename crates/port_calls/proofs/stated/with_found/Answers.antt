use Rattle.ac_calls.specs.Calls.{calls_in}
use Rattle.std.proofs.Common.{arith}
use Rattle.port_passes.proofs.Steps.{has_call}
use Rattle.port_calls.proofs.stated.with_found.Goals as goal

pub with_call-requires : goal.with_call-requires
with_call-requires c = record {
  there = has_call c.args.calls.now (calls_in c.args.text.now) _ c.index-calls-i.result c.requires.calls (omega (arith, c.if-calls-i.false)) c.index-calls-i.is;
}
