use Rattle.lint_all.proofs.Adding.{on_ok}
use Rattle.lint_all.proofs.whole.add_others.Goals as goal

-- what the pieces keep, and then what the rounds keep
pub returns : goal.returns
returns c = on_ok c.add_rounds.result (λ kept all. kept (c.in_ok-add_pieces.ensures all)) c.add_rounds.ensures
