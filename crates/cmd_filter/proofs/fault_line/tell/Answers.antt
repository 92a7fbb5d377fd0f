use Rattle.std.proofs.Common.{subst, sym}
use Rattle.cmd_call.specs.Lines.{IsTold}
use Rattle.cmd_filter.specs.FaultText.{filter_line}
use Rattle.cmd_filter.proofs.fault_line.tell.Goals as goal

pub returns-in-Write-clause-told : goal.returns-in-Write-clause-told
returns-in-Write-clause-told g c =
    subst (λ f. IsTold g.E.Write.contents g.E.Hears.has_failed c.args.errors.now c.tell_file-in-Write.new.errors (filter_line f)) (sym c.in-Write.is) c.tell_file-in-Write.ensures.told

pub returns-in-OutOfMemory-clause-told : goal.returns-in-OutOfMemory-clause-told
returns-in-OutOfMemory-clause-told g c =
    subst (λ f. IsTold g.E.Write.contents g.E.Hears.has_failed c.args.errors.now c.tell_memory.new.errors (filter_line f)) (sym c.in-OutOfMemory.is) c.tell_memory.ensures.told
