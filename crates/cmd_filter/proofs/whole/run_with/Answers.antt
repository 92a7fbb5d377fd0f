use Rattle.std.proofs.Common.{ap, ◌∙◌}
use Rattle.std.proofs.lemmas.Result.{err_from_is_err_and}
use Rattle.cmd_filter.specs.Handed.{first_text}
use Rattle.cmd_filter.proofs.Refusals.{memory_not_run}
use Rattle.cmd_filter.proofs.whole.run_with.Goals as goal

pub returns-in_err-report-clause-refused : goal.returns-in_err-report-clause-refused
returns-in_err-report-clause-refused c =
    let p = err_from_is_err_and c.from_residual.result c.from_residual.ensures.1 in
    rw (p.1, p.2) c.in_err-report.ensures.refused

pub returns-in_err-written-clause-refused : goal.returns-in_err-written-clause-refused
returns-in_err-written-clause-refused c = memory_not_run _ c.from_residual-in_err-written.result c.from_residual-in_err-written.ensures.1

pub returns-clause-run : goal.returns-clause-run
returns-clause-run c = record {
  report = c.in_ok-report.report;
  handed = c.run_alone.new.outputs.receipt.handed;
  reported = c.in_ok-report.ensures.ran;
  written = c.in_ok-written.ensures.text ∙ ap first_text c.handed.ensures;
  told = c.in_ok-written.ensures.errors;
  exits = c.in_ok-written.ensures.status;
}
