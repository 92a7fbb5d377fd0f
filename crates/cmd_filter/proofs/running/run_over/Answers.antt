use Rattle.std.proofs.Common.{ap, sym, ◌∙◌}
use Rattle.cmd_filter.specs.Handed.{no_memory}
use Rattle.cmd_filter.proofs.Alone.{is_reported, not_run, nothing_listed}
use Rattle.cmd_filter.proofs.running.run_over.Goals as goal

pub returns-in_err-report-clause-refused : goal.returns-in_err-report-clause-refused
returns-in_err-report-clause-refused c = not_run _ _ c.from_residual.result c.in_err-report.ensures.accepted c.from_residual.ensures.1

pub returns-then-is_empty-clause-ran : goal.returns-then-is_empty-clause-ran
returns-then-is_empty-clause-ran c =
    let fresh = ap (λ a. a.events) c.requires.crew in
    let none = c.events.ensures.not_started (nothing_listed c.events.result.now (sym c.is_empty.ensures ∙ c.if-is_empty.true)) in
    let empty = ap (λ r. r.handed) c.requires.outputs in
    is_reported _ _ c.args.crew.now.account c.go.new.crew.account c.args.outputs.now.receipt c.go.new.outputs.receipt c.in_ok-report.report fresh none empty
    c.in_ok-report.ensures.accepted c.in_ok-report.ensures.meaning c.in_ok-report.ensures.artifacts

pub returns-clause-refused : goal.returns-clause-refused
returns-clause-refused c = no_memory
