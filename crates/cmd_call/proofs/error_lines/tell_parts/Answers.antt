use Rattle.std.proofs.Common.{[], ◌∷◌}
use Rattle.std.specs.Prelude.{codes}
use Rattle.cmd_call.specs.Lines.{digits_of, named}
use Rattle.cmd_call.proofs.Lines.{line_told, none_begun}
use Rattle.cmd_call.proofs.error_lines.tell_parts.Goals as goal

pub returns-clause-told : goal.returns-clause-told
returns-clause-told g c =
    let one = c.put_part-is_cut.ensures in
    let two = c.put_part-is_cut-2.ensures in
    let three = c.put_part-is_cut-3.ensures in
    let four = c.put_number-is_cut.ensures in
    let five = c.put_name-is_cut.ensures in
    let six = c.put_part-is_cut-4.ensures in
    let start = g.E.Write.contents c.args.errors.now in
    line_told g.E.Write.contents g.E.Hears.has_failed c.args.errors.now c.put_part-is_cut-4.new.errors _ (codes "acrun: ") c.args.kind.now c.args.words.now (digits_of c.args.number) (named c.args.name.now) (10 ∷ [])
    (six.begun start _ (five.begun start _ (four.begun start _ (three.begun start _ (two.begun start _ (one.begun start [] (none_begun start _)))))))
    (λ e. one.kept (two.kept (three.kept (four.kept (five.kept (six.kept e))))))
