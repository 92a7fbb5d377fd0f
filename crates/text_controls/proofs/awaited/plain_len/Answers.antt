use Rattle.std.proofs.Common.{refl, ◌∙◌, sym}
use Rattle.text_controls.proofs.Plain.{plain_none, plain_more, after_more, plain_all, not_at_front}
use Rattle.text_controls.proofs.awaited.plain_len.Goals as goal

pub loop-i-init : goal.loop-i-init
loop-i-init c = (refl, plain_none _ _)

pub returns-then-is_escaped-clause-not_empty : goal.returns-then-is_escaped-clause-not_empty
returns-then-is_escaped-clause-not_empty c = λ has plain. not_at_front _ _ _ _ c.loop-i.invariant.0 (sym c.is_escaped.ensures ∙ c.if-is_escaped.true) plain

pub returns-then-is_escaped-clause-plain : goal.returns-then-is_escaped-clause-plain
returns-then-is_escaped-clause-plain c = c.loop-i.invariant.1.fronts

pub loop-i-preserved : goal.loop-i-preserved
loop-i-preserved c =
    let lt = c.loop-i-test.true in (
      after_more _ _ _ _ _ lt c.loop-i.invariant.0 c.after-lacking.ensures,
      plain_more _ _ _ _ lt c.loop-i.invariant.0 c.loop-i.invariant.1 (sym c.is_escaped.ensures ∙ c.if-is_escaped.false),
    )

pub returns-clause-plain : goal.returns-clause-plain
returns-clause-plain c = plain_all _ _ _ c.loop-i-test.false c.loop-i.invariant.1
