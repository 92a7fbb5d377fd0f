use Rattle.lint_sources.proofs.Worded.{relent}
use Rattle.lint_sources.proofs.findings.reword.Goals as goal

pub returns : goal.returns
returns c = relent _ c.args.found.now.items _ _ _ c.args.found.now.ok.0 c.as_mut_slice.ensures.value c.add_reasons.ensures
