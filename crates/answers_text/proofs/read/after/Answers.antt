use Rattle.std.proofs.lemmas.Bool.Decides.{Decides-eqb}
use Rattle.std.proofs.lemmas.Slice.Eq.{strip_prefix_is}
use Rattle.answers_text.proofs.Taken.{stripped_sound, stripped_none}
use Rattle.answers_text.proofs.read.after.Goals as goal

pub returns-clause-sound : goal.returns-clause-sound
returns-clause-sound c = stripped_sound _ _ c.strip_prefix.result (strip_prefix_is Decides-eqb c.args.text.now c.args.front.now c.strip_prefix.result c.strip_prefix.ensures.cases)

pub returns-clause-none : goal.returns-clause-none
returns-clause-none c = stripped_none _ _ c.strip_prefix.result (strip_prefix_is Decides-eqb c.args.text.now c.args.front.now c.strip_prefix.result c.strip_prefix.ensures.cases)
