use Rattle.std.proofs.Common.{◌≡◌, true, subst}
use Rattle.engine_frame.specs.Needed.{script_in}
use Rattle.cmd_configure.specs.Configures.{IsRun}
use Rattle.cmd_configure.specs.Ended.{IsRunEnd, Prints}
use Rattle.cmd_status.specs.Happened.{is_all_done, is_output_cut, status_after}
use Rattle.cmd_status.specs.Printed.{WritesSo}
use Rattle.cmd_configure.proofs.running.run_told.Goals as goal

pub returns-clause-run : goal.returns-clause-run
returns-clause-run g c =
    let n = c.args.needs.now in
    subst (λ account. is_all_done c.run_supplied.result ≡ true
    → Prints (g.W.Write.contents c.args.terminal.now.output) (g.W.Write.contents c.run_supplied.new.terminal.output) g.E.Write.contents g.E.Hears.has_failed
    c.args.terminal.now.errors c.run_supplied.new.terminal.errors c.args.terminal.now.is_asked (λ out said.
    IsRun c.args.window n.arguments (script_in n) n.settings account (g.C.Crew.account c.run_supplied.new.crew) (g.D.Disk.known c.args.terminal.now.outputs.disk)
    (g.D.Disk.known c.run_supplied.new.terminal.outputs.disk) out said (status_after c.run_supplied.result)))
    c.tell_crew.ensures c.run_supplied.ensures.run

pub returns-clause-ended : goal.returns-clause-ended
returns-clause-ended g c =
    let n = c.args.needs.now in
    subst (λ account. WritesSo g.W.Write.contents g.W.Hears.has_failed g.E.Write.contents g.E.Hears.has_failed c.args.terminal.now.output
    c.run_supplied.new.terminal.output c.args.terminal.now.errors c.run_supplied.new.terminal.errors c.args.terminal.now.is_asked
    (is_output_cut c.run_supplied.result) (
    IsRunEnd c.args.window n.arguments (script_in n) n.settings account (g.C.Crew.account c.run_supplied.new.crew)
    (g.D.Disk.known c.args.terminal.now.outputs.disk) (g.D.Disk.known c.run_supplied.new.terminal.outputs.disk) c.run_supplied.result))
    c.tell_crew.ensures c.run_supplied.ensures.ended
