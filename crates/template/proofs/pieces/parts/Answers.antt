use Rattle.std.proofs.Common.{◌≡◌, ◌+◌, ◌++◌, ◌&&◌, cond, length, drop, ◌∙◌, sym, ap, subst}
use Rattle.std.specs.Prelude.{slice_range}
use Rattle.template.specs.Pieces.{IsParted, begins_key}
use Rattle.template.proofs.Fronts.{parted, taken}
use Rattle.template.proofs.pieces.parts.Goals as goal
use Rattle.template.proofs.pieces.parts.Goals.{then-held, else-held, then-is_held, else-is_held}

pub returns : goal.returns
returns c =
    let es = c.args.table.now in
    let text = c.args.text.now in
    let held = c.in_ok-given.held in
    let after = drop (held.last + 1) text in
    let is_held : c.if-held.is_held ≡ (held.opened && begins_key es after) =
    elim c.if-held.branch [
      | then-held w ↦ w.is_held-is ∙ w.starts_key-is_held.ensures.exact ∙ ap (begins_key es) (taken text (held.last + 1)) ∙ ap (λ o. o && begins_key es after) (sym w.if-held.true)
      | else-held w ↦ w.is_held-is ∙ w.if-held.false ∙ ap (λ o. o && begins_key es after) (sym w.if-held.false)
    ] in
    let end_is : c.if-is_held.end ≡ cond c.if-held.is_held held.last (length text) =
    elim c.if-is_held.branch [
      | then-is_held w ↦ w.end-is ∙ ap (λ b. cond b held.last (length text)) (sym w.if-is_held.true)
      | else-is_held w ↦ w.end-is ∙ ap (λ b. cond b held.last (length text)) (sym w.if-is_held.false)
    ] in
    let is_parted = parted es text c.in_ok-given.given.items held.start held.last held.opened c.if-held.is_held c.if-is_held.end c.in_ok-given.ensures.come c.in_ok-given.ensures.end is_held end_is in
    let given_is : c.extend_from_slice.new.self.items ≡ c.in_ok-given.given.items ++ slice_range text held.start c.if-is_held.end = c.in_ok-extend_from_slice.ensures.items in
    let later_is : c.in_ok-later.later.items ≡ drop c.if-is_held.end text = c.in_ok-later.ensures.items ∙ taken text c.if-is_held.end in
    subst (λ given. IsParted es text given c.in_ok-later.later.items) (sym given_is)
    (subst (λ later. IsParted es text (c.in_ok-given.given.items ++ slice_range text held.start c.if-is_held.end) later) (sym later_is) is_parted)
