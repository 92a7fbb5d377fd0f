use Rattle.std.proofs.Common.{[], false, refl}
use Rattle.cmd_call.proofs.Pages.{says_nothing}
use Rattle.cmd_status.proofs.Reasons.{printed_unless, report_said}
use Rattle.cmd_status.proofs.reporting.print_shown.Goals as goal

pub returns-clause-printed : goal.returns-clause-printed
returns-clause-printed g c =
    printed_unless _ _ _ _ _ false _ _ [] [] c.as_slice-messages.ensures refl c.tell_written.ensures.done c.print_all-done.ensures.begun

pub returns-clause-said : goal.returns-clause-said
returns-clause-said g c =
    let told = c.print_all-done.ensures in
    report_said g.E.Write.contents g.E.Hears.has_failed _ _ _ _ _ _ _ _ c.as_slice-messages.ensures told.told told.whole told.kept (says_nothing _ _ _ _) c.tell_written.ensures.said
