use Rattle.cmd_status.specs.Happened.{is_output_cut}
use Rattle.cmd_status.specs.Printed.{WritesSo}
use Rattle.cmd_configure.specs.Configures.{IsConfigured}
use Rattle.cmd_configure.specs.Ended.{HasHappened, Prints}
use Rattle.runner.proofs.Statuses.{exits_so, unless_fault}
use Rattle.runner.proofs.program.configure.Goals as goal

pub returns-clause-run : goal.returns-clause-run
returns-clause-run g c =
    let made = c.run_configure-happened in
    let old = c.args.terminal.now in
    let new = made.new.terminal in
    unless_fault
    (λ n. Prints (g.W.Write.contents old.output) (g.W.Write.contents new.output) g.E.Write.contents g.E.Hears.has_failed old.errors new.errors old.is_asked (λ out said.
    IsConfigured c.args.window c.args.args.now old.env.now (g.C.Crew.account c.args.crew.now) (g.C.Crew.account made.new.crew) (g.D.Disk.known old.outputs.disk) (g.D.Disk.known new.outputs.disk) out said n))
    c.exit_status.result made.result c.exit_status.ensures made.ensures.run

pub returns-clause-ended : goal.returns-clause-ended
returns-clause-ended g c =
    let made = c.run_configure-happened in
    let old = c.args.terminal.now in
    let new = made.new.terminal in
    exits_so
    (λ n. Prints (g.W.Write.contents old.output) (g.W.Write.contents new.output) g.E.Write.contents g.E.Hears.has_failed old.errors new.errors old.is_asked (λ out said.
    IsConfigured c.args.window c.args.args.now old.env.now (g.C.Crew.account c.args.crew.now) (g.C.Crew.account made.new.crew) (g.D.Disk.known old.outputs.disk) (g.D.Disk.known new.outputs.disk) out said n))
    (λ happened. WritesSo g.W.Write.contents g.W.Hears.has_failed g.E.Write.contents g.E.Hears.has_failed old.output new.output old.errors new.errors old.is_asked (is_output_cut happened) (HasHappened c.args.window c.args.args.now old.env.now (g.C.Crew.account c.args.crew.now) (g.C.Crew.account made.new.crew) (g.D.Disk.known old.outputs.disk) (g.D.Disk.known new.outputs.disk) happened))
    c.exit_status.result made.result c.exit_status.ensures made.ensures.ended made.ensures.run
