use Rattle.lint_templates.proofs.files.warn_of_uses.Goals as goal

-- what each call keeps, one after the other
pub returns : goal.returns
returns c = record {
  within = λ held. c.in_ok-warn_of_runs.ensures.within (c.in_ok-warn_at.ensures.within (c.in_ok-warn_of_directory.ensures.within (c.in_ok-warn_of_names.ensures.within held)));
}
