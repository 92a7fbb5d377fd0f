use Rattle.std.proofs.Common.{subst, sym}
use Rattle.template.specs.Keys.{AreUpTo, Passes}
use Rattle.template.proofs.Keys.{value_of-too_long, value_of-stopped, AreUpTo-longest}
use Rattle.template.proofs.table.Table.get.Goals as goal

pub returns-then-key-self-clause-value : goal.returns-then-key-self-clause-value
returns-then-key-self-clause-value c =
    let up_to = subst (λ n. AreUpTo n c.self.inside.entries) (sym c.self.invariant.1) (AreUpTo-longest c.self.inside.entries) in
    let none = value_of-too_long c.self.inside.entries c.self.inside.longest c.args.key.now up_to c.if-key-self.true in
    cc (none, c.self.view_is)

pub returns-then-not-lets_through-clause-value : goal.returns-then-not-lets_through-clause-value
returns-then-not-lets_through-clause-value c =
    let stopped : Passes c.self.inside.sieve c.args.key.now → ⊥ = λ p. let t = c.lets_through.ensures.1 p in let no = c.if-not-lets_through.true in let how = c.if-not-lets_through.ensures in absurd cc in
    let none = value_of-stopped c.self.inside.sieve c.self.inside.entries c.args.key.now c.self.invariant.2 stopped in
    cc (none, c.self.view_is)
