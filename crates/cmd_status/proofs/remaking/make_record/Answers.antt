use Rattle.std.proofs.Common.{◌≡◌, subst}
use Rattle.cmd_status.specs.LeftAgain.{IsLeftAgain, PrintsPart}
use Rattle.cmd_status.proofs.Unmade.{said_memory}
use Rattle.cmd_status.proofs.remaking.make_record.Goals as goal

pub returns-in-Err-clause-refused : goal.returns-in-Err-clause-refused
returns-in-Err-clause-refused g c = λ two. said_memory g.E.Write.contents g.E.Hears.has_failed _ _ _ _ _ _ c.tell_memory.ensures.told

pub returns-in-Ok-clause-left : goal.returns-in-Ok-clause-left
returns-in-Ok-clause-left g c = λ two.
    let old = c.args.terminal.now in
    let new = c.make_with.new.terminal in
    subst (λ ts. IsLeftAgain (g.D.Disk.known old.outputs.disk) (g.D.Disk.known new.outputs.disk) ts (new.output ≡ old.output) (PrintsPart g.W.Write.contents g.W.Hears.has_failed old.output new.output)) c.why_of-why.ensures.args
    (c.make_with.ensures.left two)
