use Rattle.lint_templates.proofs.outputs.warn_of_outputs.Goals as goal

-- what each call keeps, one after the other
pub returns : goal.returns
returns c = record { within = λ held. c.in_ok-warn_of_each-2.ensures.within (c.in_ok-warn_of_each.ensures.within held) }
