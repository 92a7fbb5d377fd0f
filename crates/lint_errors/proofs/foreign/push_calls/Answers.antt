use Rattle.std.proofs.Common.{map}
use Rattle.ac_calls.specs.Calls.{macro_call_of}
use Rattle.lint_errors.specs.Errors.{finding_view, of_call}
use Rattle.lint_errors.proofs.Turns.{one_more}
use Rattle.lint_errors.proofs.foreign.push_calls.Goals as goal

-- the places by one turn, the ends by what the call keeps
pub loop-call-preserved : goal.loop-call-preserved
loop-call-preserved c = (
  one_more macro_call_of (of_call c.args.fault) c.args.calls.now c.loop-call.call-index c.call-item.result (map finding_view c.args.out.now.items) (map finding_view c.loop-call.out.items) (map finding_view c.push_call.new.out.items) c.loop-call-test.true c.call-item.is c.loop-call.invariant.0 c.in_ok-push_call.ensures.shown,
  λ held. c.in_ok-push_call.ensures.ends (c.loop-call.invariant.1 held),
)
