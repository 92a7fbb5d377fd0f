use Rattle.std.proofs.lemmas.Bool.Decides.{Decides-eqb}
use Rattle.std.proofs.lemmas.Slice.Eq.{strip_prefix_is}
use Rattle.options_line.proofs.Pieces.{stripped}
use Rattle.options_line.proofs.argument.rest_after.Goals as goal

pub returns : goal.returns
returns c = stripped _ _ _ (strip_prefix_is Decides-eqb c.args.text.now c.args.front.now c.strip_prefix.result c.strip_prefix.ensures.cases)
