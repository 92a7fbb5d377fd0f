use Rattle.std.proofs.Common.{ap, refl, subst}
use Rattle.std.specs.Prelude.{codes, not, ◌∷◌}
use Rattle.cmd_status.specs.LeftAgain.{PrintsPart}
use Rattle.cmd_call.specs.Guarded.{AreGuarded, inputs_of}
use Rattle.file_texts.proofs.Unused.{fresh_unused, more_unused}
use Rattle.cmd_status.proofs.Remakes.{left_again, made_again}
use Rattle.cmd_status.proofs.Unmade.{not_made, said_by, said_memory}
use Rattle.cmd_status.proofs.remaking.make_with.Goals as goal
use Rattle.cmd_status.proofs.remaking.make_with.Goals.{else-is_printed-via-then-is_printed+else-is_whole, else-is_printed-via-else-is_printed}

pub returns-then-is_whole-clause-status : goal.returns-then-is_whole-clause-status
returns-then-is_whole-clause-status g c = λ other.
    let d = c.args.terminal.now.outputs.disk in
    let now = c.keep_all.new.outputs in
    let guarded : AreGuarded (g.D.Disk.known now.disk) now.guards (codes "config.status" ∷ inputs_of c.args.recorded.now.srcdir c.args.templates.now) =
    subst (λ s. AreGuarded (g.D.Disk.known now.disk) now.guards (codes "config.status" ∷ inputs_of s c.args.templates.now)) c.as_slice-srcdir.ensures c.in-Ok.ensures.guarded in
    let whole = c.tell_answer-is_whole.ensures.made c.if-is_whole.true in (
      refl,
      c.lines-lines.result.now,
      made_again g.D.Disk.known d c.keep_all.new.outputs c.remake_record-answer.new.outputs c.args.recorded.now _ c.args.why.now.args.now _ _ whole.0 c.lines-lines.result.now
          (more_unused _ _ (fresh_unused _ _ c.requires.fresh) c.keep_all.ensures.more) c.requires.found c.requires.given c.remake_record-answer.ensures.remade whole.1 c.lines-lines.ensures.value c.lines-lines.ensures.lines
          c.lines-lines.ensures.unguarded c.lines-lines.ensures.apart (ap (λ l. l.guards) c.remake_record-answer.ensures.lasting) (ap (λ l. l.files) c.remake_record-answer.ensures.lasting) (ap (λ o. o.disk) c.keep_all.ensures.more.1) guarded,
      c.print_made-is_printed.ensures.prints.whole (ap not c.if-is_printed.true),
    )

pub returns-in_default-clause-refused : goal.returns-in_default-clause-refused
returns-in_default-clause-refused g c = λ two. said_memory g.E.Write.contents g.E.Hears.has_failed _ _ _ _ _ _ c.tell_memory.ensures.told

pub returns-clause-refused : goal.returns-clause-refused
returns-clause-refused g c = λ two.
    elim c.else-is_printed.branch [
      | else-is_printed-via-then-is_printed+else-is_whole w ↦
          said_by g.E.Write.contents g.E.Hears.has_failed _ _ _ c.args.why.now.is_asked _ c.args.why.now.args.now _ c.print_made-is_printed.result c.remake_record-answer.result c.print_made-is_printed.ensures.prints.failed
          (λ e. c.tell_answer-is_whole.ensures.unmade w.if-is_whole.false)
          (λ f is. not_made g.D.Disk.known c.args.terminal.now.outputs.disk c.args.recorded.now _ c.args.why.now.args.now _ _ _ _ f c.requires.found c.requires.given c.remake_record-answer.ensures.remade is)
          c.print_made-is_printed.ensures.said c.tell_answer-is_whole.ensures.said
      | else-is_printed-via-else-is_printed w ↦
          said_by g.E.Write.contents g.E.Hears.has_failed _ _ _ c.args.why.now.is_asked _ c.args.why.now.args.now _ c.print_made-is_printed.result c.remake_record-answer.result c.print_made-is_printed.ensures.prints.failed
          (λ e. let no = w.if-is_printed.false in absurd (cc))
          (λ f is. not_made g.D.Disk.known c.args.terminal.now.outputs.disk c.args.recorded.now _ c.args.why.now.args.now _ _ _ _ f c.requires.found c.requires.given c.remake_record-answer.ensures.remade is)
          c.print_made-is_printed.ensures.said c.tell_answer-is_whole.ensures.said
    ]

pub returns-clause-left : goal.returns-clause-left
returns-clause-left g c = λ two.
    let d = c.args.terminal.now.outputs.disk in
    let now = c.keep_all.new.outputs in
    let guarded : AreGuarded (g.D.Disk.known now.disk) now.guards (codes "config.status" ∷ inputs_of c.args.recorded.now.srcdir c.args.templates.now) =
    subst (λ s. AreGuarded (g.D.Disk.known now.disk) now.guards (codes "config.status" ∷ inputs_of s c.args.templates.now)) c.as_slice-srcdir.ensures c.in-Ok.ensures.guarded in
    left_again g.D.Disk.known d c.keep_all.new.outputs c.remake_record-answer.new.outputs c.args.recorded.now _ c.args.why.now.args.now _ (PrintsPart g.W.Write.contents g.W.Hears.has_failed c.args.terminal.now.output c.print_made-is_printed.new.output) _ c.lines-lines.result.now
    (more_unused _ _ (fresh_unused _ _ c.requires.fresh) c.keep_all.ensures.more) c.requires.found c.requires.given c.remake_record-answer.ensures.remade c.lines-lines.ensures.value c.print_made-is_printed.ensures.nothing c.lines-lines.ensures.lines
    c.lines-lines.ensures.unguarded c.lines-lines.ensures.apart (ap (λ l. l.guards) c.remake_record-answer.ensures.lasting) (ap (λ l. l.closed) c.remake_record-answer.ensures.lasting) (ap (λ l. l.files) c.remake_record-answer.ensures.lasting) (ap (λ o. o.disk) c.keep_all.ensures.more.1) guarded (_, c.print_made-is_printed.ensures.prints)
