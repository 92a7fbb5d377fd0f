use Rattle.std.proofs.Common.{ap}
use Rattle.std.specs.Prelude.{option_map}
use Rattle.cmd_header.proofs.Making.{by_words}
use Rattle.cmd_header.proofs.Saying.{said_by_words}
use Rattle.cmd_header.proofs.command.run_header.Goals as goal

pub returns-in-Some-clause-refused : goal.returns-in-Some-clause-refused
returns-in-Some-clause-refused g c =
    said_by_words _ _ _ _ _ _ c.args.words.now _ c.in-Some.name.now c.has_input-reads.result _ c.name_of.ensures (ap (option_map (λ n. n.now)) c.in-Some.is) c.has_input-reads.ensures c.print_named.ensures.refused

pub returns-in-Some-clause-made : goal.returns-in-Some-clause-made
returns-in-Some-clause-made g c =
    by_words g.E.Write.contents _ _ _ c.args.words.now _ c.in-Some.name.now c.has_input-reads.result _ _ _ c.name_of.ensures (ap (option_map (λ n. n.now)) c.in-Some.is) c.has_input-reads.ensures c.print_named.ensures.made
