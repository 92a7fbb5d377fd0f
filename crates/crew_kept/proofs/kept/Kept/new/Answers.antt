use Rattle.crew_kept.proofs.Keeping.{account_begun, asked_begun, kept_begun, fits_begun}
use Rattle.crew_kept.proofs.kept.Kept.new.Goals as goal

pub invariant_of-result : goal.invariant_of-result
invariant_of-result g c = (
  kept_begun (g.C.Crew.account c.args.crew) c.new-supply.result.records c.new.result.items c.new-2.result.items c.new-supply.result.state c.new-supply.ensures.state c.new.ensures.items c.new-2.ensures.items c.requires.events c.requires.attempts,
  fits_begun c.new.result.items c.new-2.result.items _ c.new.ensures.items c.new-2.ensures.items,
)

pub returns-clause-account : goal.returns-clause-account
returns-clause-account g c = account_begun (g.C.Crew.account c.args.crew) c.new.result.items c.new.ensures.items

pub returns-clause-asked : goal.returns-clause-asked
returns-clause-asked g c = asked_begun (g.C.Crew.account c.args.crew) c.new.result.items c.new.ensures.items c.requires.events
