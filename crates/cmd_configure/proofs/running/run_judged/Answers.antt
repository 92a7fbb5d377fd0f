use Rattle.std.proofs.Common.{[], ◌∷◌, ap, refl, subst, sym}
use Rattle.std.specs.Prelude.{IfSome, codes}
use Rattle.cmd_call.specs.Lines.{error_line}
use Rattle.cmd_status.specs.Happened.{is_output_cut}
use Rattle.cmd_status.specs.Printed.{only_lines}
use Rattle.cmd_status.specs.Reasons.{memory_line}
use Rattle.cmd_status.proofs.Happenings.{only_said}
use Rattle.engine_frame.specs.Needed.{script_in}
use Rattle.cmd_configure.specs.Ended.{IsOwnCache, IsRunEnd, own_cache, unstarted}
use Rattle.cmd_configure.proofs.Cases.{line_written, never_memory, never_read}
use Rattle.cmd_configure.proofs.running.run_judged.Goals as goal

pub returns-in-Ok-Some-clause-run : goal.returns-in-Ok-Some-clause-run
returns-in-Ok-Some-clause-run g c = never_read c.tell_own_cache.result _ c.tell_own_cache.ensures.happened

pub returns-in-Ok-Some-clause-ended : goal.returns-in-Ok-Some-clause-ended
returns-in-Ok-Some-clause-ended g c =
    let n = c.args.needs.now in
    let account = g.C.Crew.account c.args.crew.now in
    let files = g.D.Disk.known c.args.terminal.now.outputs.disk in
    let lent = subst (λ o. IfSome o (λ name. IsOwnCache (g.D.Disk.known c.disk.result.now) c.settings.result.now.cache_name name.now)) c.in-Ok-Some.field-0-is c.in-Ok-Some.ensures.own in
    let handed = subst (λ s. IsOwnCache (g.D.Disk.known c.disk.result.now) s.cache_name c.in-Ok-Some.name.now) c.settings.ensures.settings lent in
    let own = subst (λ d. IsOwnCache (g.D.Disk.known d) n.settings.cache_name c.in-Ok-Some.name.now) c.disk.ensures handed in (
      _,
      subst (λ h. IsRunEnd c.args.window n.arguments (script_in n) n.settings account account files files h (only_lines (error_line (codes "file") c.in-Ok-Some.name.now ∷ []))) (sym c.tell_own_cache.ensures.happened)
          (own_cache c.in-Ok-Some.name.now own refl refl),
      only_said g.W.Write.contents g.W.Hears.has_failed g.E.Write.contents g.E.Hears.has_failed _ _ _ c.args.terminal.now.is_asked _ _ (ap is_output_cut c.tell_own_cache.ensures.happened) c.tell_own_cache.ensures.told,
    )

pub returns-in-Err-clause-run : goal.returns-in-Err-clause-run
returns-in-Err-clause-run g c = never_memory c.no_memory.result _ c.no_memory.ensures.happened

pub returns-in-Err-clause-ended : goal.returns-in-Err-clause-ended
returns-in-Err-clause-ended g c =
    let n = c.args.needs.now in
    let account = g.C.Crew.account c.args.crew.now in
    let files = g.D.Disk.known c.args.terminal.now.outputs.disk in (
      _,
      subst (λ h. IsRunEnd c.args.window n.arguments (script_in n) n.settings account account files files h (only_lines (memory_line ∷ []))) (sym c.no_memory.ensures.happened) (unstarted refl refl),
      line_written g.W.Write.contents g.W.Hears.has_failed g.E.Write.contents g.E.Hears.has_failed _ _ _ c.args.terminal.now.is_asked c.no_memory.result _ c.no_memory.ensures.happened c.no_memory.ensures.told,
    )
