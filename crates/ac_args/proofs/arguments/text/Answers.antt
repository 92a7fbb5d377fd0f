use Rattle.ac_statement.proofs.FaultLemmas.{within_from_kind}
use Rattle.ac_args.proofs.arguments.text.Goals as goal

pub moved_by-requires : goal.moved_by-requires
moved_by-requires c = within_from_kind _ c.args.arg.text.now _ c.args.arg.placed c.in-Err.ensures.kinds
