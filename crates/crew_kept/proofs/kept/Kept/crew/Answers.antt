use Rattle.std.proofs.Common.{◌+◌, subst}
use Rattle.crew_kept.specs.Taking.{AreTaken, own_starts}
use Rattle.crew_kept.proofs.Keeping.{account_alone}
use Rattle.crew_kept.proofs.kept.Kept.crew.Goals as goal

pub returns-clause-taken : goal.returns-clause-taken
returns-clause-taken g c =
    subst (λ k. AreTaken k.records k.placed k.waiting (g.C.Crew.account k.crew).events ((g.C.Crew.account k.crew).attempts + own_starts k.placed) k.linked k.state) c.self.view_is
    (subst (λ n. AreTaken c.self.inside.supply.records c.self.inside.placed.items c.self.inside.waiting.items (g.C.Crew.account c.self.inside.crew).events n c.self.inside.linked c.self.inside.supply.state) c.self.invariant.0.tried c.self.invariant.0.are_taken)

pub returns-clause-alone : goal.returns-clause-alone
returns-clause-alone g c = λ none.
    account_alone (g.C.Crew.account c.args.self.now.crew) c.args.self.now.records c.args.self.now.placed c.args.self.now.waiting c.args.self.now.linked c.args.self.now.state ((g.C.Crew.account c.args.self.now.crew).attempts + own_starts c.args.self.now.placed) none
    (returns-clause-taken g c)
