use Rattle.std.proofs.Common.{◌++◌, ◌∙◌, ap, arith, drop, length-drop, sym, subst}
use Rattle.std.proofs.lemmas.List.{take_all}
use Rattle.template.specs.Fill.{Fills}
use Rattle.template.proofs.Steps.{comes_to_end}
use Rattle.template.proofs.filling.fill.Goals as goal

pub returns-clause-exact : goal.returns-clause-exact
returns-clause-exact c =
    let made = c.in_ok-made.made.items in
    let held = c.in_ok-made.held in
    let rest = take_all _ (drop held.start c.args.text.now) (omega (arith, length-drop held.start c.args.text.now)) in
    c.in_ok-extend_from_slice.ensures.items ∙ ap (λ t. made ++ t) rest
    ∙ comes_to_end c.args.table.now c.args.text.now made held.start held.last held.opened c.in_ok-made.ensures.come c.in_ok-made.ensures.end

pub returns-clause-sound : goal.returns-clause-sound
returns-clause-sound c = subst (Fills c.args.table.now c.args.text.now) (sym (returns-clause-exact c)) c.has_one_filled_text.ensures.filled
