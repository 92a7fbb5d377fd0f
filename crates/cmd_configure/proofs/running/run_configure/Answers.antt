use Rattle.std.specs.Prelude.{codes}
use Rattle.std.proofs.Common.{refl, subst, ap, ◌∙◌, ◌++◌, ◌∷◌}
use Rattle.cmd_status.proofs.Happenings.{only_said}
use Rattle.cmd_configure.specs.Ended.{HasHappened, source_path}
use Rattle.cmd_configure.proofs.Cases.{file_said, line_written, has_no_memory, has_no_source}
use Rattle.cmd_configure.proofs.Supplied.{source_by}
use Rattle.cmd_configure.proofs.running.run_configure.Goals as goal

pub run_text-requires-clause-found : goal.run_text-requires-clause-found
run_text-requires-clause-found g c =
    source_by g.D.Disk.known c.args.terminal.now.outputs.disk c.disk.result.now c.args.args.now c.why_of-why.result.args.now c.srcdir_of.result.now _ c.as_slice-path.result.now _ _ _ c.why_of-why.result.text.now
    c.disk.ensures c.as_slice-path.ensures c.in-Ok.ensures c.srcdir_of.ensures.exact c.why_of-why.ensures.args c.in-Ok-Some.field-0-is c.as_slice.ensures c.why_of-why.ensures.text c.in-Ok-Some.ensures.text

pub returns-in_default-clause-ended : goal.returns-in_default-clause-ended
returns-in_default-clause-ended g c = (
  _,
  has_no_memory c.args.window c.args.args.now c.args.terminal.now.env.now _ _ _ _ c.no_memory.result c.no_memory.ensures.happened refl refl,
  line_written g.W.Write.contents g.W.Hears.has_failed g.E.Write.contents g.E.Hears.has_failed _ _ _ c.args.terminal.now.is_asked c.no_memory.result _ c.no_memory.ensures.happened c.no_memory.ensures.told,
)

pub returns-in-Ok-Some-clause-ended : goal.returns-in-Ok-Some-clause-ended
returns-in-Ok-Some-clause-ended g c =
    let made = c.run_text.ensures.ended in (
      made.0,
      subst (λ a. HasHappened c.args.window a c.args.terminal.now.env.now (g.C.Crew.account c.args.crew.now) (g.C.Crew.account c.run_text.new.crew) (g.D.Disk.known c.args.terminal.now.outputs.disk) (g.D.Disk.known c.run_text.new.terminal.outputs.disk) c.run_text.result made.0)
          c.why_of-why.ensures.args made.1,
      made.2,
    )

pub returns-in-Ok-None-clause-ended : goal.returns-in-Ok-None-clause-ended
returns-in-Ok-None-clause-ended g c = (
  _,
  has_no_source g.D.Disk.known c.args.terminal.now.outputs.disk c.disk.result.now c.args.window c.args.args.now c.args.terminal.now.env.now _ c.srcdir_of.result.now _ c.as_slice-path.result.now _
      c.disk.ensures c.as_slice-path.ensures c.in-Ok.ensures c.srcdir_of.ensures.exact c.in-Ok-None.field-0-is c.in-Ok-None.ensures.text,
  only_said g.W.Write.contents g.W.Hears.has_failed g.E.Write.contents g.E.Hears.has_failed _ _ _ c.args.terminal.now.is_asked _ _ refl
      (file_said g.E.Write.contents g.E.Hears.has_failed _ _ c.args.terminal.now.is_asked (source_path c.args.args.now) c.as_slice-path.result.now
      (c.as_slice-path.ensures ∙ c.in-Ok.ensures ∙ ap (λ d. d ++ 47 ∷ codes "configure.ac") c.srcdir_of.ensures.exact) c.tell_unread.ensures.told),
)

pub returns-clause-ended : goal.returns-clause-ended
returns-clause-ended g c = (
  _,
  has_no_memory c.args.window c.args.args.now c.args.terminal.now.env.now _ _ _ _ c.no_memory-in-Err.result c.no_memory-in-Err.ensures.happened refl refl,
  line_written g.W.Write.contents g.W.Hears.has_failed g.E.Write.contents g.E.Hears.has_failed _ _ _ c.args.terminal.now.is_asked c.no_memory-in-Err.result _ c.no_memory-in-Err.ensures.happened c.no_memory-in-Err.ensures.told,
)
