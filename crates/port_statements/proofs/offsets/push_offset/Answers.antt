use Rattle.port_statements.proofs.Listed.{pushed_begun}
use Rattle.port_statements.proofs.offsets.push_offset.Goals as goal

pub returns : goal.returns
returns c = pushed_begun c.args.text.now c.args.calls.now c.args.at _ _ c.requires.calls c.requires.outside c.requires.offsets c.in_ok-push.ensures.items
