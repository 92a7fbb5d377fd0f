use Rattle.std.proofs.Common.{[], ◌++◌, ap, sym, ◌∙◌}
use Rattle.std.specs.Prelude.{codes}
use Rattle.cmd_call.specs.Lines.{error_line}
use Rattle.fault_spots.specs.FaultLines.{remake_line}
use Rattle.fault_spots.proofs.ToldAs.{told_as}
use Rattle.fault_spots.proofs.telling.tell_remake_fault.Goals as goal

pub returns-in-Record-clause-told : goal.returns-in-Record-clause-told
returns-in-Record-clause-told g c =
    told_as _ _ _ _ _ _ (ap remake_line c.in-Record.is ∙ ap (λ t. error_line (codes "record " ++ t) []) (sym c.record_spot.ensures)) c.tell_spot.ensures.told

pub returns-in-UnknownTag-clause-told : goal.returns-in-UnknownTag-clause-told
returns-in-UnknownTag-clause-told g c = told_as _ _ _ _ _ _ (ap remake_line c.in-UnknownTag.is) c.tell_numbered.ensures.told

pub returns-in-NoTemplate-clause-told : goal.returns-in-NoTemplate-clause-told
returns-in-NoTemplate-clause-told g c = told_as _ _ _ _ _ _ (ap remake_line c.in-NoTemplate.is ∙ ap (λ n. error_line (codes "template") n) (sym c.as_slice.ensures)) c.tell_named.ensures.told

pub returns-in-PutRefused-clause-told : goal.returns-in-PutRefused-clause-told
returns-in-PutRefused-clause-told g c = told_as _ _ _ _ _ _ (ap remake_line c.in-PutRefused.is) c.tell_put.ensures.told

pub returns-in-NoArguments-clause-told : goal.returns-in-NoArguments-clause-told
returns-in-NoArguments-clause-told g c = told_as _ _ _ _ _ _ (ap remake_line c.in-NoArguments.is) c.tell_named-in-NoArguments.ensures.told

pub returns-in-OutOfMemory-clause-told : goal.returns-in-OutOfMemory-clause-told
returns-in-OutOfMemory-clause-told g c = told_as _ _ _ _ _ _ (ap remake_line c.in-OutOfMemory.is) c.tell_memory.ensures.told
