use Rattle.std.proofs.Common.{subst, sym}
use Rattle.std.specs.Prelude.{IfOk, IfSome}
use Rattle.ac_calls.specs.Calls.{macro_call_of}
use Rattle.port_spots.specs.Put.{MayPut}
use Rattle.port_changes.proofs.Puts.{noted_may}
use Rattle.port_changes.proofs.changes.other_change.Goals as goal

pub returns-in-All : goal.returns-in-All
returns-in-All c =
    subst (λ i. IfOk c.noted_change.result (λ o. IfSome o (λ change. MayPut i c.args.text.now (macro_call_of c.args.call.now) change.put.items))) (sym c.in-All.is)
    (noted_may (λ change. change.put.items) c.noted_change.result c.args.text.now (macro_call_of c.args.call.now) c.noted_change.ensures)
