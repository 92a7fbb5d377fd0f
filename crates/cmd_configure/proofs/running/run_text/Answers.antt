use Rattle.std.proofs.Common.{[], ◌∷◌, refl, subst}
use Rattle.cmd_call.specs.Lines.{SaysLines}
use Rattle.cmd_status.proofs.Happenings.{uncut}
use Rattle.fault_spots.specs.FaultLines.{fault_line}
use Rattle.cmd_configure.proofs.Cases.{has_bad_source, never_done}
use Rattle.cmd_configure.proofs.running.run_text.Goals as goal

pub returns-in-Err-clause-run : goal.returns-in-Err-clause-run
returns-in-Err-clause-run g c = never_done _ c.tell_run.result _ c.tell_run.ensures.happened

pub returns-in-Err-clause-ended : goal.returns-in-Err-clause-ended
returns-in-Err-clause-ended g c = (
  _,
  has_bad_source c.in-Err.fault c.args.window c.args.why.now.args.now c.args.terminal.now.env.now _ _ _ _ c.args.why.now.text.now c.from-wrong.result c.tell_run.result
      c.requires.found c.in-Err.ensures.exact c.from-wrong.ensures c.tell_run.ensures.happened refl refl,
  uncut g.W.Write.contents g.W.Hears.has_failed g.E.Write.contents g.E.Hears.has_failed _ _ _ c.args.terminal.now.is_asked c.from-wrong.result c.tell_run.result _ c.tell_run.ensures.happened
      (subst (λ asked. SaysLines g.E.Write.contents g.E.Hears.has_failed c.args.terminal.now.errors c.tell_run.new.errors asked (fault_line c.from-wrong.result ∷ [])) c.requires.asked c.tell_run.ensures.told),
)
