use Rattle.std.proofs.Common.{◌≡◌, refl, ◌∙◌, subst, sym}
use Rattle.cmd_call.specs.Precious.{precious_in}
use Rattle.cmd_status.specs.Left.{IsFinished}
use Rattle.cmd_status.specs.Printed.{WritesSo}
use Rattle.cmd_status.proofs.Happenings.{all_printed, all_said, status_whole, whole_parts}
use Rattle.cmd_status.specs.declared.happened.Happened.TheVariants.{Ran}
use Rattle.cmd_status.specs.Happened.{is_output_cut}
use Rattle.cmd_status.proofs.reporting.finish_run.Goals as goal

pub returns-in-Ok-clause-run : goal.returns-in-Ok-clause-run
returns-in-Ok-clause-run g c = λ all.
    let left = c.finish_report-left in
    let parts = whole_parts left.result all in (
      c.in-Ok.report,
      c.in-Ok.is,
      status_whole left.result all ∙ left.ensures.left.exits,
      all_printed left.result _ _ _ _ parts left.ensures.written.prints,
      record { held = left.ensures.left.held; log = left.ensures.left.logged parts.logged },
      all_said left.result c.in-Ok.report _ _ _ _ _ parts left.ensures.written.says,
    )

pub returns-in-Ok-clause-finished : goal.returns-in-Ok-clause-finished
returns-in-Ok-clause-finished g c =
    let left = c.finish_report-left in
    subst (λ a. WritesSo g.W.Write.contents g.W.Hears.has_failed g.E.Write.contents g.E.Hears.has_failed c.args.terminal.now.output left.new.terminal.output c.args.terminal.now.errors left.new.terminal.errors c.args.terminal.now.is_asked (is_output_cut (Ran left.result))
    (IsFinished g.D.Disk.known c.args.given.now.settings.now.quiet c.args.terminal.now.outputs left.new.terminal.outputs (precious_in c.args.given.now.source.now) a (Ran left.result))) (sym c.in-Ok.is)
    (_, (left.result, refl, left.ensures.left, refl), left.ensures.written)

pub returns-in-Err-clause-finished : goal.returns-in-Err-clause-finished
returns-in-Err-clause-finished g c =
    let ended = c.finish_fault in
    subst (λ a. WritesSo g.W.Write.contents g.W.Hears.has_failed g.E.Write.contents g.E.Hears.has_failed c.args.terminal.now.output ended.new.terminal.output c.args.terminal.now.errors ended.new.terminal.errors c.args.terminal.now.is_asked (is_output_cut ended.result)
    (IsFinished g.D.Disk.known c.args.given.now.settings.now.quiet c.args.terminal.now.outputs ended.new.terminal.outputs (precious_in c.args.given.now.source.now) a ended.result)) (sym c.in-Err.is) ended.ensures.finished
