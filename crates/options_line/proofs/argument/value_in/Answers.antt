use Rattle.std.proofs.Common.{sym, ◌∙◌}
use Rattle.options_line.proofs.Pieces.{value_is, no_value}
use Rattle.options_line.proofs.argument.value_in.Goals as goal

pub returns-in-Some : goal.returns-in-Some
returns-in-Some c = value_is _ _ (sym c.equals_in.ensures.value ∙ c.in-Some.is)

pub returns-in-None : goal.returns-in-None
returns-in-None c = no_value _ (sym c.equals_in.ensures.value ∙ c.in-None.is)
