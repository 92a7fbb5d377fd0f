use Rattle.file_texts.proofs.Modes.{none_given, readers_execute}
use Rattle.file_texts.proofs.laws.modes_give_no_rights.Goals as goal

pub returns-clause-read_write : goal.returns-clause-read_write
returns-clause-read_write c = none_given

pub returns-clause-execute : goal.returns-clause-execute
returns-clause-execute c = readers_execute
