use Rattle.std.proofs.Common.{subst, sym, ap, ◌∙◌, ◌++◌, []}
use Rattle.std.specs.Prelude.{codes}
use Rattle.cmd_call.specs.Lines.{IsTold, error_line}
use Rattle.cmd_why.proofs.Saying.{fault_line_is}
use Rattle.cmd_why.proofs.asking.tell_record.Goals as goal

pub returns-in_default-clause-told : goal.returns-in_default-clause-told
returns-in_default-clause-told g c =
    subst (IsTold g.E.Write.contents g.E.Hears.has_failed c.args.errors.now c.tell_spot.new.errors)
    (sym (fault_line_is c.args.fault c.in_default.not-OutOfMemory ∙ ap (λ t. error_line (codes "record " ++ t) []) (sym c.record_spot.ensures))) c.tell_spot.ensures.told
