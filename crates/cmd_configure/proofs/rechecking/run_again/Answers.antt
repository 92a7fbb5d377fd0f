use Rattle.std.proofs.Common.{[], ◌∷◌, refl, subst, sym}
use Rattle.cmd_call.specs.Lines.{SaysLines}
use Rattle.cmd_status.proofs.Happenings.{only_said}
use Rattle.fault_spots.specs.FaultLines.{remake_line}
use Rattle.engine_frame.specs.Rechecked.{HasArguments}
use Rattle.cmd_configure.specs.Ended.{ran_again}
use Rattle.cmd_configure.proofs.Cases.{has_bad_record, never_done_again, uncut_record}
use Rattle.cmd_configure.proofs.rechecking.run_again.Goals as goal

pub returns-in-Ok-clause-run : goal.returns-in-Ok-clause-run
returns-in-Ok-clause-run g c = λ other.
    let told = c.run_configure-happened.ensures.run other in (
      told.0,
      told.1,
      record {
        text = c.args.text.now;
        arguments = c.as_slice-args.result.now;
        found = c.requires.found;
        rechecked = subst (λ a. HasArguments c.args.text.now a) (sym c.as_slice-args.ensures) c.in-Ok.ensures.sound;
        configured = told.2;
      },
      told.3,
      told.4,
    )

pub returns-in-Ok-clause-ended : goal.returns-in-Ok-clause-ended
returns-in-Ok-clause-ended g c =
    let made = c.run_configure-happened.ensures.ended in (
      made.0,
      ran_again c.args.text.now c.as_slice-args.result.now c.requires.found
          (subst (λ a. HasArguments c.args.text.now a) (sym c.as_slice-args.ensures) c.in-Ok.ensures.sound) made.1,
      made.2,
    )

pub returns-in-Err-clause-run : goal.returns-in-Err-clause-run
returns-in-Err-clause-run g c = never_done_again c.in-Err.fault c.no_record.result _ c.no_record.ensures.happened

pub returns-in-Err-clause-ended : goal.returns-in-Err-clause-ended
returns-in-Err-clause-ended g c = (
  _,
  has_bad_record c.in-Err.fault c.args.terminal.now.env.now _ _ _ _ c.args.text.now c.no_record.result c.requires.found c.in-Err.ensures.exact c.no_record.ensures.happened refl refl,
  only_said g.W.Write.contents g.W.Hears.has_failed g.E.Write.contents g.E.Hears.has_failed _ _ _ c.args.terminal.now.is_asked _ _ (uncut_record c.in-Err.fault c.no_record.result c.no_record.ensures.happened)
      (subst (λ asked. SaysLines g.E.Write.contents g.E.Hears.has_failed c.args.terminal.now.errors c.no_record.new.errors asked (remake_line c.in-Err.fault ∷ [])) c.why_of-why.ensures c.no_record.ensures.told),
)
