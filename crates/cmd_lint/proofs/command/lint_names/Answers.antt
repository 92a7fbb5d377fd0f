use Rattle.cmd_lint.proofs.Saying.{all_said, name_said, none_said, option_said}
use Rattle.cmd_lint.proofs.Statuses.{name_kept, none_yet, option_kept}
use Rattle.cmd_lint.proofs.command.lint_names.Goals as goal
use Rattle.cmd_lint.proofs.command.lint_names.Goals.{then-is_name, else-is_name}

pub words-init : goal.words-init
words-init g c = record {
  kept = none_yet (g.D.Disk.known c.args.disk.now) c.args.words.now c.args.reads c.args.input.now c.args.errors.now;
  said = none_said g.E.Write.contents g.E.Hears.has_failed c.args.errors.now (g.D.Disk.known c.args.disk.now) (g.W.Hears.has_failed c.args.output.now);
}

pub words-preserved : goal.words-preserved
words-preserved g c = elim c.if-is_name.branch [
  | then-is_name w ↦
      record {
        kept = name_kept (g.D.Disk.known c.args.disk.now) c.args.words.now c.words.word-index c.word-item.result _ c.args.reads _ _ _ _ _ _ _ _ _ _ _ _ _
            c.words-test.true c.word-item.is w.as_slice-name.ensures c.is_name.ensures w.if-is_name.true c.requires c.words.invariant.kept
            w.lint_name-next.ensures.input w.lint_name-next.ensures.silent w.lint_name-next.ensures.linted
            w.worse-status.ensures.bound w.worse-status.ensures.first w.worse-status.ensures.second w.worse-status.ensures.both
            w.input-is w.errors-is w.status-is;
        said = name_said g.E.Write.contents g.E.Hears.has_failed g.W.Hears.has_failed _ _ _ _ _ _ _ (g.D.Disk.known c.args.disk.now) c.args.words.now c.words.word-index c.word-item.result _ c.args.reads _ _ _ _ _
            c.words-test.true c.word-item.is w.as_slice-name.ensures c.is_name.ensures w.if-is_name.true c.requires c.words.invariant.said
            w.lint_name-next.ensures.said w.lint_name-next.ensures.kept w.worse-status.ensures.either w.errors-is w.output-is w.status-is;
      }
  | else-is_name w ↦
      record {
        kept = option_kept (g.D.Disk.known c.args.disk.now) c.args.words.now c.words.word-index c.word-item.result c.args.reads _ _ _ _ _ _ _ _ _
            c.words-test.true c.word-item.is c.is_name.ensures w.if-is_name.false c.words.invariant.kept w.input-is w.errors-is w.status-is;
        said = option_said g.E.Write.contents g.E.Hears.has_failed g.W.Hears.has_failed _ _ _ _ _ (g.D.Disk.known c.args.disk.now) c.args.words.now c.words.word-index c.word-item.result _ _ _
            c.words-test.true c.word-item.is c.is_name.ensures w.if-is_name.false c.words.invariant.said w.errors-is w.output-is w.status-is;
      }
]
