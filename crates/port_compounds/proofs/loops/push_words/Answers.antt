use Rattle.std.proofs.Common.{map, subst, sym}
use Rattle.port_compounds.specs.Loops as specs
use Rattle.port_compounds.proofs.loops.push_words.Goals as goal

pub loop-init : goal.loop-init
loop-init c = subst (λ items. specs.AreWords c.args.text.now c.args.start c.args.start (map (λ p. p.now) items)) (sym c.requires) specs.AreWords.none
