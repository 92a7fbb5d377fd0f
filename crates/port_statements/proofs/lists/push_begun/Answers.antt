use Rattle.port_statements.specs.Statements.{BeginsOutside}
use Rattle.port_statements.proofs.Listed.{pushed}
use Rattle.port_statements.proofs.lists.push_begun.Goals as goal

pub returns : goal.returns
returns c = pushed (BeginsOutside c.args.text.now) _ _ c.args.cut c.requires.cuts c.requires.begins c.in_ok-push.ensures.items
