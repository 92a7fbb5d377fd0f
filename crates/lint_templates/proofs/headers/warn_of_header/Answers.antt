use Rattle.lint_templates.proofs.headers.warn_of_header.Goals as goal

-- what each call keeps, one after the other
pub returns : goal.returns
returns c = record {
  within = λ held. c.in_ok-warn_of_all-2.ensures.within (c.in_ok-warn_of_all.ensures.within (c.in_ok-warn_of_lines.ensures.within held));
}
