use Rattle.std.proofs.Common.{[]}
use Rattle.ac_tree.specs.Script.{script_of}
use Rattle.cmd_filter.proofs.Givens.{alone_read, not_judged, not_run_alone, shown_alone, taken_alone}
use Rattle.cmd_filter.proofs.Refusals.{memory_not_run}
use Rattle.cmd_filter.proofs.whole.run_judged.Goals as goal

pub returns-in_err-report-clause-refused : goal.returns-in_err-report-clause-refused
returns-in_err-report-clause-refused c =
    not_judged _ (script_of c.args.source.now) _ c.from_residual.result c.in_err-report.ensures.exact c.from_residual.ensures.1

pub returns-in_err-written-in-Shows-clause-refused : goal.returns-in_err-written-in-Shows-clause-refused
returns-in_err-written-in-Shows-clause-refused c =
    memory_not_run _ c.from_residual-in_err-written-in-Shows.result c.from_residual-in_err-written-in-Shows.ensures.1

pub returns-in_ok-written-in-Shows-clause-run : goal.returns-in_ok-written-in-Shows-clause-run
returns-in_ok-written-in-Shows-clause-run c = record {
  report = c.in-Shows.report;
  handed = [];
  reported = shown_alone _ (script_of c.args.source.now) _ c.in-Shows.report c.in_ok-report.ensures.exact c.in-Shows.is;
  written = c.in_ok-written-in-Shows.ensures.text;
  told = c.in_ok-written-in-Shows.ensures.errors;
  exits = c.in_ok-written-in-Shows.ensures.status;
}

pub run_with-requires : goal.run_with-requires
run_with-requires c = record { source = alone_read (script_of c.args.source.now) _ c.in-Runs.needs c.in_ok-report.ensures.exact c.in-Runs.is c.requires.source }

pub returns-in-Runs-clause-run : goal.returns-in-Runs-clause-run
returns-in-Runs-clause-run c =
    taken_alone _ (script_of c.args.source.now) _ c.in-Runs.needs c.run_with.result (λ a. a.text) (λ a. a.errors.items) (λ a. a.status) c.in_ok-report.ensures.exact c.in-Runs.is c.run_with.ensures.run

pub returns-in-Runs-clause-refused : goal.returns-in-Runs-clause-refused
returns-in-Runs-clause-refused c =
    not_run_alone _ (script_of c.args.source.now) _ c.in-Runs.needs c.run_with.result c.in_ok-report.ensures.exact c.in-Runs.is c.run_with.ensures.refused
