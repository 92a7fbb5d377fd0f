use Rattle.std.proofs.Common.{refl, subst}
use Rattle.cfglog.specs.Texts.{log_of}
use Rattle.cmd_call.specs.Errors.{errors_of}
use Rattle.cmd_call.specs.Logged.{HasLogged, HasNoLog}
use Rattle.cmd_call.proofs.Pages.{says_thrice}
use Rattle.cmd_status.proofs.reporting.finish_report.Goals as goal

pub returns-clause-left : goal.returns-clause-left
returns-clause-left g c =
    let told = c.print_report-is_printed.ensures in
    let log = log_of c.args.report.now.log in
    let logged = c.log_report-is_logged in
    record {
      held = told.held;
      exits = c.status_of.ensures;
      refuses = refl;
      logged = λ e. subst (λ o. HasLogged g.D.Disk.known o logged.new.outputs log) told.outputs (logged.ensures.log e);
      unlogged = λ e. subst (λ o. HasNoLog g.D.Disk.known o logged.new.outputs) told.outputs (logged.ensures.no_log e);
    }

pub returns-clause-written : goal.returns-clause-written
returns-clause-written g c = record {
  prints = c.print_report-is_printed.ensures.printed;
  says = says_thrice g.E.Write.contents g.E.Hears.has_failed _ _ _ _ c.args.terminal.now.is_asked (errors_of c.args.report.now.messages) _ _ _ c.print_report-is_printed.ensures.said c.tell_refused.ensures.said c.log_report-is_logged.ensures.said;
}
