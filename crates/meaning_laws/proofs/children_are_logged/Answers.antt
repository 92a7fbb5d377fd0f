use Rattle.meaning_laws.proofs.Logged.{children_are_logged}
use Rattle.meaning_laws.proofs.children_are_logged.Goals as goal

pub returns : goal.returns
returns c = record { logged = children_are_logged }
