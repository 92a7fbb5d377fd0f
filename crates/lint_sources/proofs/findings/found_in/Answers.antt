use Rattle.lint_sources.proofs.Worded.{listed, new_error}
use Rattle.lint_sources.proofs.findings.found_in.Goals as goal

pub returns-clause-error : goal.returns-clause-error
returns-clause-error g c =
    new_error (g.D.Disk.known c.args.disk.now) c.args.linted.now.directory c.args.linted.now.text _ c.in_ok-reading.reading.source c.in_ok-findings.findings.items _ _ _ _
    c.as_slice-text.ensures c.in_ok-findings.ensures.no_error c.in_ok-reading.ensures.source c.new-lost.ensures.items c.in_ok-sheets.ensures c.in_ok-has_error.ensures.all c.in_ok-has_error.ensures.some

pub returns-clause-listed : goal.returns-clause-listed
returns-clause-listed g c =
    listed (g.W.Warner.finds c.args.warner.now) (g.D.Disk.known c.args.disk.now) c.args.linted.now.directory c.args.linted.now.text _ c.in_ok-reading.reading c.in_ok-sheets.sheets c.in_ok-findings.findings.items _ _ _ _ _ _
    c.as_slice-text.ensures c.in_ok-findings.ensures.first c.in_ok-reading.ensures c.new-lost.ensures.items c.in_ok-sheets.ensures c.in_ok-has_error.ensures.all c.in_ok-reword.ensures c.in_ok-others.ensures c.in_ok-join.ensures
