use Rattle.cmd_call.proofs.Listing.{no_entry, one_entry}
use Rattle.cmd_call.proofs.process.add_entry.Goals as goal

pub returns-in-None : goal.returns-in-None
returns-in-None c = no_entry _ _ c.in-None.ensures

pub returns-in_ok-put_entry-in-Some : goal.returns-in_ok-put_entry-in-Some
returns-in_ok-put_entry-in-Some c = one_entry _ _ _ _ _ c.in-Some.ensures c.in_ok-put_entry-in-Some.ensures
