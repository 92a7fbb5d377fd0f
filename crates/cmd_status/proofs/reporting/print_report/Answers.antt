use Rattle.cmd_call.proofs.Pages.{pages_then}
use Rattle.cmd_status.proofs.Reasons.{printed_unless, report_said}
use Rattle.cmd_status.proofs.reporting.print_report.Goals as goal

pub returns-clause-printed : goal.returns-clause-printed
returns-clause-printed g c =
    printed_unless _ _ _ _ _ c.args.settings.now.quiet _ _ _ _ c.as_slice-messages.ensures c.lines-lines.ensures.value c.tell_written.ensures.done c.print_all-done.ensures.begun

pub returns-clause-said : goal.returns-clause-said
returns-clause-said g c =
    let told = c.print_all-done.ensures in
    let contents = g.E.Write.contents in
    let has_failed = g.E.Hears.has_failed in
    let asked = c.args.terminal.now.is_asked in
    let pages = pages_then contents has_failed _ _ _ asked c.explain_directories.ensures.paged
    (pages_then contents has_failed _ _ _ asked c.explain_short.ensures.paged
    (pages_then contents has_failed _ _ _ asked c.explain_compilers.ensures.paged
    (pages_then contents has_failed _ _ _ asked c.explain_long_cache.ensures.paged
    (pages_then contents has_failed _ _ _ asked c.explain_completed.ensures.paged c.explain_made.ensures.paged)))) in
    report_said contents has_failed _ _ _ _ asked _ _ _ c.as_slice-messages.ensures told.told told.whole told.kept pages c.tell_written.ensures.said
