use Rattle.std.proofs.Common.{◌≡◌, ℕ, List, Option, subst}
use Rattle.std.specs.Prelude.{IfSome, slice_get}
use Rattle.cmd_call.specs.Given.{listed}
use Rattle.cmd_call.proofs.Listing.{last_text}
use Rattle.cmd_call.proofs.process.texts_of.Goals as goal

pub returns-in-None : goal.returns-in-None
returns-in-None g c =
    let P : Option (List ℕ) → Type 0 = λ o. IfSome (g.T.Texts.given c.args.given.now) (λ all. slice_get (listed c.args.list all) c.loop-i.i ≡ o) in
    last_text _ c.args.list _ _ c.loop-i.i c.loop-i.invariant (subst P c.in-None.is c.in_ok-text_at.ensures)
