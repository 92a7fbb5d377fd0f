use Rattle.std.proofs.Common.{subst, sym}
use Rattle.cmd_call.specs.Lines.{IsTold}
use Rattle.cmd_call.specs.Precious.{precious_in, precious_line}
use Rattle.cmd_call.proofs.error_lines.tell_precious.Goals as goal

pub returns-in-OutOfMemory-clause-told : goal.returns-in-OutOfMemory-clause-told
returns-in-OutOfMemory-clause-told g c =
    subst (λ f. IsTold g.E.Write.contents g.E.Hears.has_failed c.args.errors.now c.tell_named-in-OutOfMemory.new.errors (precious_line (precious_in c.args.source.now) f)) (sym c.in-OutOfMemory.is)
    c.tell_named-in-OutOfMemory.ensures.told
