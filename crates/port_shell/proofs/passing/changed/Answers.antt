use Rattle.std.proofs.Common.{refl}
use Rattle.port_breaks.proofs.Breaking.{made_from}
use Rattle.port_shell.specs.Formed.{IsEdit}
use Rattle.port_shell.proofs.passing.changed.Goals as goal

pub returns : goal.returns
returns c = made_from (IsEdit c.args.idioms c.args.text.now) c.args.text.now c.args.edits.now c.args.edits.now _ refl c.requires c.in_ok-out.ensures
