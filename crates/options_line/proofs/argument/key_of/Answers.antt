use Rattle.std.proofs.Common.{sym, ◌∙◌}
use Rattle.options_line.proofs.Pieces.{key_is, no_key}
use Rattle.options_line.proofs.argument.key_of.Goals as goal

pub returns-in-Some : goal.returns-in-Some
returns-in-Some c = key_is _ _ (sym c.equals_in.ensures.value ∙ c.in-Some.is)

pub returns-in-None : goal.returns-in-None
returns-in-None c = no_key _ (sym c.equals_in.ensures.value ∙ c.in-None.is)
