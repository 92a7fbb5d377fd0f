use Rattle.std.proofs.Common.{[], ◌∷◌, subst}
use Rattle.std.specs.Prelude.{codes}
use Rattle.cmd_call.specs.Lines.{SaysLines, error_line}
use Rattle.cmd_call.proofs.Pages.{says_nothing}
use Rattle.cmd_status.proofs.reporting.log_report.Goals as goal

pub returns-in-Ok-clause-said : goal.returns-in-Ok-clause-said
returns-in-Ok-clause-said g c = says_nothing _ _ _ _

pub returns-in-Err-clause-said : goal.returns-in-Err-clause-said
returns-in-Err-clause-said g c =
    subst (λ n. SaysLines g.E.Write.contents g.E.Hears.has_failed c.args.errors.now c.tell_unwritten.new.errors c.args.is_asked (error_line (codes "file") n ∷ [])) c.as_bytes.ensures.value c.tell_unwritten.ensures.told
