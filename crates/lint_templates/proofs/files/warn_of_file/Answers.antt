use Rattle.lint_templates.proofs.files.warn_of_file.Goals as goal

-- what each call keeps, one after the other
pub returns : goal.returns
returns c = record {
  within = λ held. c.in_ok-warn_at-3.ensures.within (c.in_ok-warn_at-2.ensures.within (c.in_ok-warn_at.ensures.within (c.in_ok-warn_of_uses.ensures.within held)));
}
