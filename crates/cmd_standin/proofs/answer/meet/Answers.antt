use Rattle.std.proofs.Common.{Some, ap, sym, ◌∙◌}
use Rattle.std.specs.Option.{option_copied}
use Rattle.cmd_standin.proofs.Meetings.{meets_seen}
use Rattle.cmd_standin.proofs.answer.meet.Goals as goal

pub returns-in_err-make_seen-clause-meets : goal.returns-in_err-make_seen-clause-meets
returns-in_err-make_seen-clause-meets g c = meets_seen _ _ _ c.as_slice-name.result.now (ap option_copied c.in-Some.is ∙ ap Some (sym c.as_slice-name.ensures)) c.make_seen.ensures

pub returns-then-ne-clause-meets : goal.returns-then-ne-clause-meets
returns-then-ne-clause-meets g c = meets_seen _ _ _ c.as_slice-name.result.now (ap option_copied c.in-Some.is ∙ ap Some (sym c.as_slice-name.ensures)) c.make_seen.ensures

pub returns-clause-meets : goal.returns-clause-meets
returns-clause-meets g c = meets_seen _ _ _ c.as_slice-name.result.now (ap option_copied c.in-Some.is ∙ ap Some (sym c.as_slice-name.ensures)) c.make_seen.ensures
