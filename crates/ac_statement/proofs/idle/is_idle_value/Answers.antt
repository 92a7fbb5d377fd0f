use Rattle.std.proofs.Common.{sym, ◌∙◌}
use Rattle.ac_statement.proofs.IdleLemmas.{idle_more, idle_stop, idle_end}
use Rattle.ac_statement.proofs.idle.is_idle_value.Goals as goal

pub returns-in-None : goal.returns-in-None
returns-in-None c = sym (idle_stop _ _ _ c.loop-byte-test.true (sym c.after_byte.ensures ∙ c.in-None.is)) ∙ c.loop-byte.invariant

pub loop-byte-preserved : goal.loop-byte-preserved
loop-byte-preserved c = idle_more _ _ _ _ c.loop-byte-test.true (sym c.after_byte.ensures ∙ c.in-Some.is) ∙ c.loop-byte.invariant

pub returns : goal.returns
returns c = sym (idle_end _ _ _ c.loop-byte-test.false) ∙ c.loop-byte.invariant
