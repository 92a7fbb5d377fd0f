use Rattle.std.proofs.Common.{ap}
use Rattle.std.specs.Prelude.{option_map}
use Rattle.cmd_port.specs.Asked.{seen}
use Rattle.cmd_port.proofs.Written.{by_words}
use Rattle.cmd_port.proofs.Saying.{said_by_words}
use Rattle.cmd_port.proofs.command.run_port.Goals as goal

pub returns-in-Some-clause-refused : goal.returns-in-Some-clause-refused
returns-in-Some-clause-refused g c =
    said_by_words _ _ _ _ _ _ c.args.words.now _ (seen c.in-Some.request) c.has_input-reads.result _ c.request_of.ensures (ap (option_map seen) c.in-Some.is) c.has_input-reads.ensures c.port_named.ensures.refused

pub returns-in-Some-clause-ported : goal.returns-in-Some-clause-ported
returns-in-Some-clause-ported g c =
    by_words _ c.args.words.now _ (seen c.in-Some.request) c.has_input-reads.result _ _ _ c.request_of.ensures (ap (option_map seen) c.in-Some.is) c.has_input-reads.ensures c.port_named.ensures.ported
