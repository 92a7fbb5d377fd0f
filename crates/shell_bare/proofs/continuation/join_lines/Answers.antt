use Rattle.std.proofs.Common.{ℕ, false, List, ◌++◌, ap, ◌∙◌}
use Rattle.shell_bare.specs.declared.continuation.BareContext.TheVariants.{Start}
use Rattle.shell_bare.specs.Joining.{state, joined_from}
use Rattle.shell_bare.proofs.Joining.{begun, lines_more, lines_end, no_longer}
use Rattle.shell_bare.proofs.continuation.join_lines.Goals as goal

pub loop-byte-init : goal.loop-byte-init
loop-byte-init c = ap (λ (t : List ℕ). t ++ joined_from (state Start false) c.args.text.now) c.new-out.ensures.items ∙ begun c.args.text.now

pub loop-byte-preserved : goal.loop-byte-preserved
loop-byte-preserved c = lines_more c.loop-byte.out.items c.push_byte.new.out.items c.loop-byte.state c.next-state.result _ _ c.loop-byte-test.true c.in_ok-push_byte.ensures c.next-state.ensures ∙ c.loop-byte.invariant

pub returns-clause-value : goal.returns-clause-value
returns-clause-value c = lines_end _ _ _ _ _ c.loop-byte-test.false c.in_ok-push_end.ensures ∙ c.loop-byte.invariant

pub returns-clause-within : goal.returns-clause-within
returns-clause-within c = no_longer _ c.args.text.now (lines_end _ _ _ _ _ c.loop-byte-test.false c.in_ok-push_end.ensures ∙ c.loop-byte.invariant)
