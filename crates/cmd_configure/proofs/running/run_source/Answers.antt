use Rattle.std.proofs.Common.{[], ◌∷◌, ap, false, refl, subst}
use Rattle.std.specs.Prelude.{not}
use Rattle.cmd_status.specs.Happened.{status_after}
use Rattle.cmd_status.specs.Printed.{printed}
use Rattle.cmd_call.specs.Errors.{errors_of}
use Rattle.ac_tree.specs.Script.{script_of}
use Rattle.cmd_configure.proofs.Cases.{has_bad_arguments, has_run, has_shown, never_done, zero_if}
use Rattle.cmd_configure.proofs.Done.{is_read, is_run, is_shown, shown_alone, shown_said}
use Rattle.cmd_call.specs.Lines.{SaysLines}
use Rattle.cmd_status.proofs.Happenings.{uncut}
use Rattle.fault_spots.specs.FaultLines.{fault_line}
use Rattle.cmd_configure.proofs.running.run_source.Goals as goal

pub run_judged-requires-clause-source : goal.run_judged-requires-clause-source
run_judged-requires-clause-source g c =
    is_read _ _ c.args.why.now.text.now (script_of c.args.source.now) _ c.in-Ok-Runs.needs c.requires.source c.in-Ok-Runs.ensures.exact c.in-Ok-Runs.field-0-is

pub returns-in-Ok-Shows-clause-run : goal.returns-in-Ok-Shows-clause-run
returns-in-Ok-Shows-clause-run g c = λ printed_it.
    let told = c.print_shown-is_printed.ensures in
    let report = c.in-Ok-Shows.report in (
      printed false report.messages [],
      errors_of report.messages,
      is_shown c.args.window c.args.why.now.args.now c.args.terminal.now.env.now (g.C.Crew.account c.args.crew.now) (g.D.Disk.known c.args.terminal.now.outputs.disk) (g.D.Disk.known c.print_shown-is_printed.new.terminal.outputs.disk)
          c.args.why.now.text.now (script_of c.args.source.now) _ report _
          c.requires.found c.requires.source c.in-Ok-Shows.ensures.exact c.in-Ok-Shows.field-0-is (ap (λ o. g.D.Disk.known o.disk) c.print_shown-is_printed.ensures.outputs) (zero_if c.print_shown-is_printed.result printed_it),
      told.printed.whole (ap not printed_it),
      shown_alone g.E.Write.contents g.E.Hears.has_failed _ _ c.args.terminal.now.is_asked c.print_shown-is_printed.result (errors_of report.messages) printed_it told.said,
    )

pub returns-in-Ok-Shows-clause-ended : goal.returns-in-Ok-Shows-clause-ended
returns-in-Ok-Shows-clause-ended g c = (
  _,
  has_shown c.args.window c.args.why.now.args.now c.args.terminal.now.env.now (g.C.Crew.account c.args.crew.now) (g.D.Disk.known c.args.terminal.now.outputs.disk) (g.D.Disk.known c.print_shown-is_printed.new.terminal.outputs.disk)
      c.args.why.now.text.now (script_of c.args.source.now) _ c.in-Ok-Shows.report c.print_shown-is_printed.result
      c.requires.found c.requires.source c.in-Ok-Shows.ensures.exact c.in-Ok-Shows.field-0-is (ap (λ o. g.D.Disk.known o.disk) c.print_shown-is_printed.ensures.outputs),
  record {
    prints = c.print_shown-is_printed.ensures.printed;
    says = shown_said g.E.Write.contents g.E.Hears.has_failed _ _ c.args.terminal.now.is_asked c.args.why.now.args.now c.args.terminal.now.env.now (script_of c.args.source.now) _ c.in-Ok-Shows.report _
        c.in-Ok-Shows.ensures.exact c.in-Ok-Shows.field-0-is c.print_shown-is_printed.ensures.said;
  },
)

pub returns-in-Ok-Runs-clause-run : goal.returns-in-Ok-Runs-clause-run
returns-in-Ok-Runs-clause-run g c = λ other.
    let made = c.run_judged.ensures.run other in (
      made.0,
      made.1,
      is_run c.args.window c.args.why.now.args.now c.args.terminal.now.env.now (g.C.Crew.account c.args.crew.now) (g.C.Crew.account c.run_judged.new.crew)
          (g.D.Disk.known c.args.terminal.now.outputs.disk) (g.D.Disk.known c.run_judged.new.terminal.outputs.disk) made.0 made.1
          c.args.why.now.text.now (script_of c.args.source.now) _ c.in-Ok-Runs.needs (status_after c.run_judged.result)
          c.requires.found c.requires.source c.in-Ok-Runs.ensures.exact c.in-Ok-Runs.field-0-is c.in-Ok-Runs.ensures.directory made.2,
      made.3,
      made.4,
    )

pub returns-in-Ok-Runs-clause-ended : goal.returns-in-Ok-Runs-clause-ended
returns-in-Ok-Runs-clause-ended g c =
    let made = c.run_judged.ensures.ended in (
      made.0,
      has_run c.args.window c.args.why.now.args.now c.args.terminal.now.env.now (g.C.Crew.account c.args.crew.now) (g.C.Crew.account c.run_judged.new.crew)
          (g.D.Disk.known c.args.terminal.now.outputs.disk) (g.D.Disk.known c.run_judged.new.terminal.outputs.disk)
          c.args.why.now.text.now (script_of c.args.source.now) _ c.in-Ok-Runs.needs c.run_judged.result made.0
          c.requires.found c.requires.source c.in-Ok-Runs.ensures.exact c.in-Ok-Runs.field-0-is c.in-Ok-Runs.ensures.directory made.1,
      made.2,
    )

pub returns-in-Err-clause-run : goal.returns-in-Err-clause-run
returns-in-Err-clause-run g c = never_done c.in-Err.fault c.tell_run.result _ c.tell_run.ensures.happened

pub returns-in-Err-clause-ended : goal.returns-in-Err-clause-ended
returns-in-Err-clause-ended g c = (
  _,
  has_bad_arguments c.in-Err.fault c.args.window c.args.why.now.args.now c.args.terminal.now.env.now _ _ _ _ c.args.why.now.text.now (script_of c.args.source.now) c.tell_run.result
      c.requires.found c.requires.source c.in-Err.ensures.exact c.tell_run.ensures.happened refl refl,
  uncut g.W.Write.contents g.W.Hears.has_failed g.E.Write.contents g.E.Hears.has_failed _ _ _ c.args.terminal.now.is_asked c.in-Err.fault c.tell_run.result _ c.tell_run.ensures.happened
      (subst (λ asked. SaysLines g.E.Write.contents g.E.Hears.has_failed c.args.terminal.now.errors c.tell_run.new.errors asked (fault_line c.in-Err.fault ∷ [])) c.requires.asked c.tell_run.ensures.told),
)
