use Rattle.std.proofs.lemmas.Bool.Decides.{Decides-eqb}
use Rattle.std.proofs.lemmas.Slice.Eq.{strip_prefix_is}
use Rattle.cachefile.proofs.Fronts.{rest_after_is}
use Rattle.cachefile.proofs.line.rest_after.Goals as goal

pub returns : goal.returns
returns c = rest_after_is c.args.front.now c.args.text.now c.strip_prefix.result (strip_prefix_is Decides-eqb c.args.text.now c.args.front.now c.strip_prefix.result c.strip_prefix.ensures.cases)
