use Rattle.std.proofs.Common.{arith, subst, sym}
use Rattle.cmd_port.specs.Ported as specs
use Rattle.cmd_port.proofs.Steps.{on_ok, comment_copied, words_put}
use Rattle.cmd_port.proofs.comments.put_note.Goals as goal

pub returns : goal.returns
returns c =
    let text = c.args.text.now in
    let line = c.args.note.now.line in
    let copied = comment_copied text c.args.copy.now.at line _ _ _ c.requires.begun (omega (arith, c.if-line-copy.false)) (omega (arith, c.if-text-line.false)) c.in_ok-copy_to.ensures in
    on_ok (λ put. subst (λ at. specs.IsCommented text at c.put_words.new.out.items) (sym (c.in_ok-copy_to.ensures.0)) (words_put text line _ _ _ copied (sym c.if-not-is_line_start.ensures) put))
    c.put_words.result c.put_words.ensures
