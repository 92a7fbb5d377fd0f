use Rattle.status_record.proofs.Escapes.{unescaped-escaped, escaped-unescaped}
use Rattle.status_record.proofs.laws.escapes.Goals as goal

pub returns-clause-reads_back : goal.returns-clause-reads_back
returns-clause-reads_back c = unescaped-escaped

pub returns-clause-sound : goal.returns-clause-sound
returns-clause-sound c = escaped-unescaped
