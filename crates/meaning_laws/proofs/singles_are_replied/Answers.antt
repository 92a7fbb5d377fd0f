use Rattle.meaning_laws.proofs.Singles.{entries_single, replied_are}
use Rattle.meaning_laws.proofs.singles_are_replied.Goals as goal

pub returns-clause-replied : goal.returns-clause-replied
returns-clause-replied c = replied_are

pub returns-clause-entries : goal.returns-clause-entries
returns-clause-entries c = entries_single
