use Rattle.options.proofs.Squeezes.{squeezed_more, squeezed_end}
use Rattle.options.proofs.help.put_squeezed.Goals as goal

pub loop-byte-preserved : goal.loop-byte-preserved
loop-byte-preserved c =
    squeezed_more _ _ _ _ _ _ _ _ c.loop-byte-test.true c.in_ok-put_byte.ensures c.is_blank-blank.ensures.value c.loop-byte.invariant

pub returns : goal.returns
returns c = squeezed_end _ _ _ _ _ c.loop-byte-test.false c.loop-byte.invariant
