use Rattle.std.proofs.Common.{subst, sym}
use Rattle.cmd_call.specs.Lines.{IsTold}
use Rattle.cmd_status.proofs.Reasons.{other_line}
use Rattle.cmd_status.proofs.fault_lines.tell_line.Goals as goal

pub returns-in_default-clause-told : goal.returns-in_default-clause-told
returns-in_default-clause-told g c =
    subst (IsTold g.E.Write.contents g.E.Hears.has_failed c.args.errors.now c.tell_fault-in_default.new.errors) (sym (other_line _ c.args.fault.now c.in_default.not-Precious)) c.tell_fault-in_default.ensures.told
