use Rattle.run_state.proofs.Escapes.{escaped_more, escaped_end}
use Rattle.run_state.proofs.literal.escaped.Goals as goal

pub loop-byte-preserved : goal.loop-byte-preserved
loop-byte-preserved c = escaped_more _ _ _ _ c.loop-byte-test.true c.in_ok-put_escaped.ensures c.loop-byte.invariant

pub returns : goal.returns
returns c = escaped_end _ _ _ c.loop-byte-test.false c.loop-byte.invariant
