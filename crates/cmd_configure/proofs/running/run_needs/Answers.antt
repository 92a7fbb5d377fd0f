use Rattle.std.proofs.Common.{[], ◌∷◌, refl, subst, sym}
use Rattle.engine_frame.specs.Needed.{script_in}
use Rattle.cmd_status.specs.Printed.{only_lines}
use Rattle.cmd_status.specs.Reasons.{memory_line}
use Rattle.cmd_configure.proofs.Cases.{line_written}
use Rattle.cmd_configure.specs.Ended.{IsRunEnd, unstarted}
use Rattle.cmd_configure.proofs.running.run_needs.Goals as goal

pub returns-in-Err-clause-ended : goal.returns-in-Err-clause-ended
returns-in-Err-clause-ended g c =
    let n = c.args.needs.now in
    let account = g.C.Crew.account c.args.crew.now in
    let files = g.D.Disk.known c.args.terminal.now.outputs.disk in (
      _,
      subst (λ h. IsRunEnd c.args.window n.arguments (script_in n) n.settings account account files files h (only_lines (memory_line ∷ []))) (sym c.no_memory.ensures.happened) (unstarted refl refl),
      line_written g.W.Write.contents g.W.Hears.has_failed g.E.Write.contents g.E.Hears.has_failed _ _ _ c.args.terminal.now.is_asked c.no_memory.result _ c.no_memory.ensures.happened c.no_memory.ensures.told,
    )
