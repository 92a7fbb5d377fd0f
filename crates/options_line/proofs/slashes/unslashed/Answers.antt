use Rattle.std.proofs.Common.{sym, ap, ◌∙◌, ◌∷◌, [], ◌++◌}
use Rattle.std.proofs.lemmas.Bool.{ne_eqb}
use Rattle.options_line.specs.Slashes.{unslashed}
use Rattle.options_line.proofs.SlashLemmas.{slash_dropped, other_stays, none_left}
use Rattle.options_line.proofs.slashes.unslashed.Goals as goal

pub returns-then-last-ne47 : goal.returns-then-last-ne47
returns-then-last-ne47 c =
    let whole = c.in-Some.ensures.cases.0 in
    whole ∙ sym (other_stays _ _ (ne_eqb _ _ c.if-last-ne47.true)) ∙ sym (ap unslashed whole) ∙ c.loop-last.invariant

pub loop-last-preserved : goal.loop-last-preserved
loop-last-preserved c =
    let whole = c.in-Some.ensures.cases.0 in
    sym (slash_dropped c.in-Some.front.now) ∙ ap (λ x. unslashed (c.in-Some.front.now ++ x ∷ [])) (sym c.if-last-ne47.false)
    ∙ sym (ap unslashed whole) ∙ c.loop-last.invariant

pub returns : goal.returns
returns c = sym (none_left _ c.in_default.ensures.cases) ∙ c.loop-last.invariant
