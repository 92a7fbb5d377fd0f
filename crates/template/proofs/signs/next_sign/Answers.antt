use Rattle.std.proofs.Common.{subst, sym}
use Rattle.template.specs.Hops.{HasNextAt}
use Rattle.template.specs.Marks.{IsWindow}
use Rattle.template.proofs.Windows.{slides, none_after, next_after, next_in, IfSome-weaker, IfNone-weaker}
use Rattle.template.proofs.signs.next_sign.Goals as goal

pub returns-then-text-window-lt-WIDTH-clause-found : goal.returns-then-text-window-lt-WIDTH-clause-found
returns-then-text-window-lt-WIDTH-clause-found c =
    let text = c.args.text.now in
    let w = c.loop-window.window in
    IfSome-weaker (λ p. HasNextAt text w.end p.0) (λ p. HasNextAt text c.args.from p.0) (λ p next. next_after text w.base w.end w.marks c.args.from c.loop-window.invariant p.0 c.loop-window-test.true next) c.last_sign.result c.last_sign.ensures.found

pub returns-then-text-window-lt-WIDTH-clause-no_sign : goal.returns-then-text-window-lt-WIDTH-clause-no_sign
returns-then-text-window-lt-WIDTH-clause-no_sign c =
    let w = c.loop-window.window in
    IfNone-weaker (none_after c.args.text.now w.base w.end w.marks c.args.from c.loop-window.invariant c.loop-window-test.true) c.last_sign.result c.last_sign.ensures.no_sign

pub loop-window-preserved : goal.loop-window-preserved
loop-window-preserved c =
    let text = c.args.text.now in
    let w = c.loop-window.window in
    let n = c.window_at-window.result in
    let next = subst (λ b. IsWindow text b n.end n.marks w.end) c.window_at-window.ensures.base c.window_at-window.ensures.window in
    subst (λ b. IsWindow text b n.end n.marks c.args.from) (sym c.window_at-window.ensures.base)
    (slides text w.base w.end w.marks c.args.from c.loop-window.invariant n.end n.marks c.loop-window-test.true next)

pub returns-clause-found : goal.returns-clause-found
returns-clause-found c =
    let w = c.loop-window.window in
    let bit = c.lowest-bit in
    next_in c.args.text.now w.base w.end w.marks c.args.from c.loop-window.invariant bit.result bit.ensures.bound bit.ensures.set bit.ensures.below
