use Rattle.std.proofs.Common.{refl, map}
use Rattle.ac_calls.specs.Calls.{macro_call_of}
use Rattle.port_passes.proofs.Steps.{has_call}
use Rattle.port_setup.proofs.needing.is_looked_for.Goals as goal

pub returns-then-is_run_after : goal.returns-then-is_run_after
returns-then-is_run_after c =
    λ _. record { call = macro_call_of c.index-calls-i.result; is_there = has_call c.args.calls.now (map macro_call_of c.args.calls.now) c.loop-i.i c.index-calls-i.result refl c.loop-i-test.true c.index-calls-i.is; looks = c.if-not-looks_for.ensures refl; run = c.if-is_run_after.ensures refl }
