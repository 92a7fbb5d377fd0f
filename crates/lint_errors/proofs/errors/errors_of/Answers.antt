use Rattle.std.proofs.Common.{◌≡◌, ◌↔◌, []}
use Rattle.acparse.specs.Profile.{source_of}
use Rattle.lint_errors.specs.Errors.{AreErrors, IsAccepted}
use Rattle.lint_errors.proofs.Acceptance.{along, none_if_accepted}
use Rattle.lint_errors.proofs.errors.errors_of.Goals as goal

pub returns-clause-no_error : goal.returns-clause-no_error
returns-clause-no_error c =
    let text = c.args.text.now in
    along (λ v. AreErrors text (source_of text) v.items) (λ v. (v.items ≡ []) ↔ IsAccepted text) (λ v errors. none_if_accepted text v.items errors) c.errors_with.result c.errors_with.ensures.exact
