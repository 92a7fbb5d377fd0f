use Rattle.std.proofs.Common.{◌≡◌, ◌∙◌, ◌++◌, length, arith, sym, ap, subst, eqb-true}
use Rattle.std.specs.Prelude.{IfOk}
use Rattle.std.proofs.lemmas.List.{nil_from_length}
use Rattle.template.specs.Pieces.{FillerState, Feeds}
use Rattle.template.proofs.Fronts.{Feeds-parted, IfOk-weaker}
use Rattle.template.proofs.pieces.Filler.parts_with.Goals as goal

pub returns-then-is_empty-clause-feeds : goal.returns-then-is_empty-clause-feeds
returns-then-is_empty-clause-feeds c =
    let held = c.self.inside.held in
    let zero_len = eqb-true _ 0 (sym c.is_empty.ensures ∙ c.if-is_empty.true) in
    let none : length held.items ≡ 0 = omega (arith, held.ok.0, zero_len) in
    let whole = ap (λ t. t ++ c.args.piece.now) (sym (nil_from_length held.items none)) in
    subst (λ (f : FillerState). IfOk c.parts.result (λ p. Feeds f.entries f.held c.args.piece.now p.0.items p.1.items)) c.self.view_is
    (IfOk-weaker _ _ (λ p. Feeds-parted c.self.inside.table c.longest_key.ensures.shell_names held.items c.args.piece.now c.args.piece.now p.0.items p.1.items c.self.invariant whole) c.parts.result c.parts.ensures)

pub returns-clause-feeds : goal.returns-clause-feeds
returns-clause-feeds c =
    let held = c.self.inside.held in
    let whole =
    c.as_slice-2.ensures.value ∙ c.in_ok-extend_from_slice.ensures.items ∙ ap (λ t. t ++ c.args.piece.now) (c.in_ok-text.ensures.items ∙ c.as_slice.ensures.value) in
    subst (λ (f : FillerState). IfOk c.parts-2.result (λ p. Feeds f.entries f.held c.args.piece.now p.0.items p.1.items)) c.self.view_is
    (IfOk-weaker _ _ (λ p. Feeds-parted c.self.inside.table c.longest_key.ensures.shell_names held.items c.args.piece.now _ p.0.items p.1.items c.self.invariant whole) c.parts-2.result c.parts-2.ensures)
