use Rattle.std.proofs.Common.{◌≡◌, ◌≤◌, ◌∙◌, ℕ, List, sym, ap, subst, [], ◌∷◌, length, drop, arith, length-append}
use Rattle.std.proofs.lemmas.List.{take_all, take_rest, length-drop}
use Rattle.shell_case.specs.Fronts.{shared}
use Rattle.shell_case.proofs.Shared.{shared_within, shares_len, one_more, front_later}
use Rattle.shell_case.proofs.fronts.shared_fronts.Goals as goal

pub shared_len-len-requires-clause-bound : goal.shared_len-len-requires-clause-bound
shared_len-len-requires-clause-bound c =
    let text = c.args.text.now in
    subst (λ (t : List ℕ). c.known_len-known.result ≤ length t) (sym (take_rest text c.loop-at.at))
    (omega (arith, c.known_len-known.ensures, shared_within text (drop c.loop-at.at text)))

pub later-stretch-requires : goal.later-stretch-requires
later-stretch-requires c =
    let text = c.args.text.now in
    let e : c.shared_len-len.result ≡ shared text (drop c.loop-at.at text) = c.shared_len-len.ensures ∙ ap (shared text) (take_rest text c.loop-at.at) in
    record { bound = omega (arith, e, shared_within text (drop c.loop-at.at text), length-drop c.loop-at.at text) }

pub loop-at-preserved : goal.loop-at-preserved
loop-at-preserved c =
    let text = c.args.text.now in
    let e : c.shared_len-len.result ≡ shared text (drop c.loop-at.at text) = c.shared_len-len.ensures ∙ ap (shared text) (take_rest text c.loop-at.at) in (
      omega (arith, ap length c.in_ok-push.ensures.items, length-append c.loop-at.lens.items (c.shared_len-len.result ∷ []), c.loop-at.invariant.0),
      c.in_ok-push.ensures.items ∙ one_more text c.loop-at.lens.items c.loop-at.at c.shared_len-len.result c.loop-at.invariant.1 c.loop-at-test.true e,
      front_later text c.loop-at.stretch c.later-stretch.result c.loop-at.at c.shared_len-len.result c.loop-at.invariant.2 e c.later-stretch.ensures,
    )

pub returns-clause-value : goal.returns-clause-value
returns-clause-value c = c.loop-at.invariant.1 ∙ take_all c.loop-at.at _ (omega (arith, shares_len c.args.text.now c.args.text.now, c.loop-at-test.false))
