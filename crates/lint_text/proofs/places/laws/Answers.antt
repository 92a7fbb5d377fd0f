use Rattle.lint_text.proofs.PlaceLaws.{one_place}
use Rattle.lint_text.proofs.places.laws.Goals as goal

pub returns : goal.returns
returns c = one_place
