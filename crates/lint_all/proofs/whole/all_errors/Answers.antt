use Rattle.std.proofs.Common.{◌≡◌, ◌↔◌, []}
use Rattle.lint_all.specs.Found.{AreAmong}
use Rattle.lint_errors.specs.Errors.{IsAccepted}
use Rattle.lint_all.proofs.Found.{along, first_of, none_never, not_empty}
use Rattle.lint_all.proofs.whole.all_errors.Goals as goal

pub with_others-requires : goal.with_others-requires
with_others-requires c = first_of c.args.text.now c.in_ok-errors.errors.items c.in_ok-errors.ensures.exact c.in_ok-errors.ensures.ends

pub returns-clause-no_error : goal.returns-clause-no_error
returns-clause-no_error c =
    let first = c.in_ok-errors.errors.items in
    let text = c.args.text.now in
    let some = not_empty first _ c.is_empty.result c.in_ok-errors.errors.ok.0 c.is_empty.ensures c.if-is_empty.false in
    along (λ v. AreAmong first v.items) (λ v. (v.items ≡ []) ↔ IsAccepted text) (λ v among. none_never text first v.items some c.in_ok-errors.ensures.no_error among) c.with_others.result c.with_others.ensures.among
