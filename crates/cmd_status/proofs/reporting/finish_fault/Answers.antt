use Rattle.std.proofs.Common.{◌≡◌, [], ◌∷◌, Err, Some, false, refl, subst, sym}
use Rattle.cmd_status.specs.Happened.{is_all_done, is_output_cut}
use Rattle.cmd_call.specs.Lines.{SaysLines}
use Rattle.cmd_call.specs.Precious.{precious_in}
use Rattle.cmd_status.specs.Left.{IsFinished}
use Rattle.cmd_status.specs.Printed.{WritesSo}
use Rattle.cmd_status.specs.Reasons.{run_line}
use Rattle.cmd_status.proofs.Happenings.{not_whole, told_alone, uncut, unfinished}
use Rattle.cmd_status.specs.declared.happened.Happened.{Happened}
use Rattle.cmd_status.specs.declared.happened.Happened.TheVariants.{Ran}
use Rattle.cmd_status.proofs.reporting.finish_fault.Goals as goal

pub returns-in-PutRefused-clause-unfinished : goal.returns-in-PutRefused-clause-unfinished
returns-in-PutRefused-clause-unfinished g c = not_whole c.finish_report-left.result _ c.finish_report-left.ensures.left.refuses

pub returns-in-PutRefused-clause-finished : goal.returns-in-PutRefused-clause-finished
returns-in-PutRefused-clause-finished g c =
    let left = c.finish_report-left in
    subst (λ f. WritesSo g.W.Write.contents g.W.Hears.has_failed g.E.Write.contents g.E.Hears.has_failed c.args.terminal.now.output left.new.terminal.output c.args.terminal.now.errors left.new.terminal.errors c.args.terminal.now.is_asked (is_output_cut (Ran left.result))
    (IsFinished g.D.Disk.known c.args.given.now.settings.now.quiet c.args.terminal.now.outputs left.new.terminal.outputs (precious_in c.args.given.now.source.now) (Err f) (Ran left.result))) (sym c.in-PutRefused.is)
    (_, (left.result, refl, left.ensures.left, refl), left.ensures.written)

pub returns-in_default-clause-unfinished : goal.returns-in_default-clause-unfinished
returns-in_default-clause-unfinished g c =
    subst (λ (h : Happened). is_all_done h ≡ false) (sym c.tell_run.ensures.happened) (unfinished _)

pub returns-in_default-clause-finished : goal.returns-in_default-clause-finished
returns-in_default-clause-finished g c = (
  _,
  told_alone g.D.Disk.known c.args.given.now.settings.now.quiet _ _ (precious_in c.args.given.now.source.now) c.args.fault _ c.in_default.not-PutRefused c.tell_run.ensures.happened refl,
  uncut g.W.Write.contents g.W.Hears.has_failed g.E.Write.contents g.E.Hears.has_failed _ _ _ c.args.terminal.now.is_asked c.args.fault _ _ c.tell_run.ensures.happened
      (subst (λ asked. SaysLines g.E.Write.contents g.E.Hears.has_failed c.args.terminal.now.errors c.tell_run.new.errors asked (run_line (Some (precious_in c.args.given.now.source.now)) c.args.fault ∷ [])) c.requires.asked c.tell_run.ensures.told),
)
