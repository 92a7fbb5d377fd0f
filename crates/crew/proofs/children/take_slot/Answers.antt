use Rattle.std.proofs.Common.{◌≡◌, subst, sym, rules}
use Rattle.std.specs.Prelude.{All, ◌<◌, remove}
use Rattle.crew.proofs.SlotLemmas.{below_rest}
use Rattle.crew.proofs.children.take_slot.Goals as goal

pub returns-clause-within : goal.returns-clause-within
returns-clause-within c =
    let others : c.remove.new.self.items ≡ remove c.args.slots.now.items c.args.place = search rules in
    subst (All (λ x. x < 16)) (sym others) (below_rest c.args.slots.now.items c.args.place c.requires.within)
