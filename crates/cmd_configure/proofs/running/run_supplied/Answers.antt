use Rattle.std.proofs.Common.{◌≡◌, ◌∙◌, [], ◌∷◌, ap, refl, sym, subst}
use Rattle.file_texts.proofs.Unused.{fresh_unused, more_unused}
use Rattle.std.specs.Option.{option_copied}
use Rattle.cmd_status.specs.Happened.{status_after}
use Rattle.cmd_status.specs.Printed.{printed}
use Rattle.engine_frame.specs.Given.{started}
use Rattle.engine_frame.specs.Needed.{script_in}
use Rattle.cmd_call.specs.Errors.{errors_of}
use Rattle.cmd_call.specs.Guarded.{AreGuarded, inputs_of}
use Rattle.cmd_call.specs.Precious.{precious_in}
use Rattle.cmd_call.specs.Supplies.{AreGiven}
use Rattle.cmd_status.specs.Printed.{only_lines}
use Rattle.cmd_configure.proofs.Cases.{line_written}
use Rattle.cmd_status.specs.Reasons.{memory_line}
use Rattle.cmd_configure.specs.Ended.{IsRunEnd, unstarted}
use Rattle.cmd_configure.proofs.Done.{run_done}
use Rattle.cmd_configure.proofs.Ends.{IsGone, run_ended}
use Rattle.cmd_configure.proofs.running.run_supplied.Goals as goal

pub returns-in_default-clause-ended : goal.returns-in_default-clause-ended
returns-in_default-clause-ended g c =
    let n = c.args.needs.now in
    let account = g.C.Crew.account c.args.crew.now in
    let old = g.D.Disk.known c.args.terminal.now.outputs.disk in
    let new = g.D.Disk.known c.keep_inputs.new.outputs.disk in (
      _,
      subst (λ h. IsRunEnd c.args.window n.arguments (script_in n) n.settings account account old new h (only_lines (memory_line ∷ []))) (sym c.no_memory.ensures.happened)
          (unstarted refl (ap (λ o. g.D.Disk.known o.disk) c.keep_inputs.ensures.more.1)),
      line_written g.W.Write.contents g.W.Hears.has_failed g.E.Write.contents g.E.Hears.has_failed _ _ _ c.args.terminal.now.is_asked c.no_memory.result _ c.no_memory.ensures.happened c.no_memory.ensures.told,
    )

pub returns-clause-ended : goal.returns-clause-ended
returns-clause-ended g c =
    let files = g.D.Disk.known c.args.terminal.now.outputs.disk in
    let n = c.args.needs.now in
    let given : AreGiven files (script_in n) n.settings.cache_name n.settings.srcdir n.settings.no_create (option_copied c.cache_of-cache.result) c.as_slice-templates.result.now =
    subst (λ o. AreGiven files (script_in n) n.settings.cache_name n.settings.srcdir n.settings.no_create o c.as_slice-templates.result.now) (sym c.cache_of-cache.ensures)
    (subst (λ ts. AreGiven files (script_in n) n.settings.cache_name n.settings.srcdir n.settings.no_create c.args.supplies.now.cache ts) (sym c.as_slice-templates.ensures.value) c.requires.given) in
    let kept = c.keep_inputs.new.outputs in
    let srcdir_is : c.as_slice-srcdir.result.now ≡ n.settings.srcdir = c.as_slice-srcdir.ensures ∙ ap (λ s. s.srcdir) c.settings.ensures.settings in
    let guarded : AreGuarded (g.D.Disk.known kept.disk) kept.guards (inputs_of n.settings.srcdir c.as_slice-templates.result.now) =
    subst (λ s. AreGuarded (g.D.Disk.known kept.disk) kept.guards (inputs_of s c.as_slice-templates.result.now)) srcdir_is c.in-Ok.ensures.guarded in
    let answer = c.go-answer in
    let gone : IsGone g.D.Disk.known c.args.terminal.now.outputs.disk kept answer.new.outputs c.finish_run.new.terminal.outputs (started n.arguments (option_copied c.cache_of-cache.result) c.as_slice-templates.result.now (script_in n) n.settings)
    c.args.window n.arguments (script_in n) n.settings (option_copied c.cache_of-cache.result) c.as_slice-templates.result.now (g.C.Crew.account c.args.crew.now) (g.C.Crew.account answer.new.crew) answer.result =
    record {
      new = more_unused _ _ (fresh_unused _ _ c.requires.fresh) c.keep_inputs.ensures.more;
      disk = ap (λ o. o.disk) c.keep_inputs.ensures.more.1;
      guarded = guarded;
      same_guards = ap (λ l. l.guards) answer.ensures.lasting;
      same_closed = ap (λ l. l.closed) answer.ensures.lasting;
      same_files = ap (λ l. l.files) answer.ensures.lasting;
      given = given;
      apart = c.requires.apart;
      is = refl;
      accepted = answer.ensures.accepted;
      untouched = λ none. (ap (λ w. g.C.Crew.account w) (answer.ensures.untouched none).0, (answer.ensures.untouched none).1);
      meaning = answer.ensures.meaning;
      handed = answer.ensures.artifacts;
      cut = answer.ensures.cut;
      remakes = answer.ensures.remakes;
      begun = answer.ensures.begun;
      memory = answer.ensures.memory;
    } in
    let finished = c.finish_run.ensures.finished in (
      finished.0,
      run_ended g.D.Disk.known c.args.terminal.now.outputs.disk kept answer.new.outputs c.finish_run.new.terminal.outputs _ c.args.window n.arguments (script_in n) n.settings _ _ _ _ _ c.given_of-given.result.settings.now answer.result c.finish_run.result finished.0 gone
          (ap precious_in c.given_of-given.ensures.source) c.given_of-given.ensures.settings finished.1,
      finished.2,
    )

pub returns-clause-run : goal.returns-clause-run
returns-clause-run g c = λ other.
    let files = g.D.Disk.known c.args.terminal.now.outputs.disk in
    let n = c.args.needs.now in
    let given : AreGiven files (script_in n) n.settings.cache_name n.settings.srcdir n.settings.no_create (option_copied c.cache_of-cache.result) c.as_slice-templates.result.now =
    subst (λ o. AreGiven files (script_in n) n.settings.cache_name n.settings.srcdir n.settings.no_create o c.as_slice-templates.result.now) (sym c.cache_of-cache.ensures)
    (subst (λ ts. AreGiven files (script_in n) n.settings.cache_name n.settings.srcdir n.settings.no_create c.args.supplies.now.cache ts) (sym c.as_slice-templates.ensures.value) c.requires.given) in
    let kept = c.keep_inputs.new.outputs in
    let srcdir_is : c.as_slice-srcdir.result.now ≡ n.settings.srcdir = c.as_slice-srcdir.ensures ∙ ap (λ s. s.srcdir) c.settings.ensures.settings in
    let guarded : AreGuarded (g.D.Disk.known kept.disk) kept.guards (inputs_of n.settings.srcdir c.as_slice-templates.result.now) =
    subst (λ s. AreGuarded (g.D.Disk.known kept.disk) kept.guards (inputs_of s c.as_slice-templates.result.now)) srcdir_is c.in-Ok.ensures.guarded in
    let told = c.finish_run.ensures.run other in
    let answer = c.go-answer in (
      printed c.given_of-given.result.settings.now.quiet told.0.messages answer.new.outputs.lines,
      errors_of told.0.messages,
      run_done g.D.Disk.known c.args.terminal.now.outputs.disk c.keep_inputs.new.outputs answer.new.outputs c.finish_run.new.terminal.outputs c.args.window n.arguments (script_in n) n.settings _ _
          (g.C.Crew.account c.args.crew.now) (g.C.Crew.account answer.new.crew) answer.result told.0 c.given_of-given.result.settings.now (status_after c.finish_run.result)
          (more_unused _ _ (fresh_unused _ _ c.requires.fresh) c.keep_inputs.ensures.more) (ap (λ o. o.disk) c.keep_inputs.ensures.more.1) guarded (ap (λ l. l.guards) answer.ensures.lasting) (ap (λ l. l.files) answer.ensures.lasting) given c.requires.apart
          answer.ensures.accepted answer.ensures.meaning answer.ensures.artifacts answer.ensures.remakes c.given_of-given.ensures.settings told.1 told.2 told.4,
      told.3,
      told.5,
    )
