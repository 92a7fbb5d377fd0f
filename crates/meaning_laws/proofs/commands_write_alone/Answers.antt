use Rattle.meaning_laws.proofs.CommandLemmas.{commands_write_alone}
use Rattle.meaning_laws.proofs.commands_write_alone.Goals as goal

pub returns : goal.returns
returns c = record { alone = commands_write_alone }
