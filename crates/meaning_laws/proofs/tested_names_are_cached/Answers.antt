use Rattle.meaning_laws.proofs.TestedNames.{tested_names_are_cached}
use Rattle.meaning_laws.proofs.tested_names_are_cached.Goals as goal

pub returns : goal.returns
returns c = record { cached = tested_names_are_cached }
