use Rattle.std.proofs.Common.{not, subst}
use Rattle.std.specs.Prelude.{IsTrue}
use Rattle.cmd_call.specs.Calls.{ProgramCall, IfConfigure}
use Rattle.cmd_call.specs.Progress.{IsNeverQuiet}
use Rattle.cmd_call.proofs.Quiet.{shown_quiet}
use Rattle.cmd_call.proofs.progress.may_show_progress.Goals as goal

pub returns-in-Configure-clause-quiet : goal.returns-in-Configure-clause-quiet
returns-in-Configure-clause-quiet c =
    let P : ProgramCall → Type 0 = λ call. IfConfigure call (λ window arguments. IsTrue (not c.has_quiet.result) → IsNeverQuiet arguments) in
    subst P c.in-Configure.ensures.call (λ shown. shown_quiet _ _ c.has_quiet.ensures shown)
