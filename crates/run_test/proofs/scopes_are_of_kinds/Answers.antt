use Rattle.run_test.proofs.Rows.{scope_is_of}
use Rattle.run_test.proofs.scopes_are_of_kinds.Goals as goal

pub returns : goal.returns
returns c = record { scopes = scope_is_of }
