use Rattle.std.proofs.Common.{drop, false, refl, sym, subst}
use Rattle.template.specs.Hops.{HasNoAt, HasComeTo}
use Rattle.template.specs.Marks.{IsWindow}
use Rattle.template.specs.declared.signs.Window.{Window}
use Rattle.template.proofs.Steps.{HasComeTo-start}
use Rattle.template.proofs.Windows.{IsWindow-start}
use Rattle.template.proofs.filling.fill_closed.Goals as goal

pub loop-at-init : goal.loop-at-init
loop-at-init c = record {
  come = subst (λ made. HasComeTo c.args.table.now c.args.text.now made 0 0 false) (sym c.in_ok-made.ensures.items) (HasComeTo-start c.args.table.now c.args.text.now);
  window = subst (λ (w : Window). IsWindow c.args.text.now w.base w.end w.marks 0) (sym c.new-window.ensures) (IsWindow-start c.args.text.now);
  read = refl;
}

pub returns-clause-end : goal.returns-clause-end
returns-clause-end c = subst (λ n. HasNoAt (drop n c.args.text.now)) (sym c.loop-at.invariant.read) c.in_default.ensures.no_sign
