use Rattle.meaning_laws.proofs.Questions.{found_by_value, found_by_cached}
use Rattle.meaning_laws.proofs.found_by_value.Goals as goal

pub returns : goal.returns
returns c = record { value = found_by_value; cached = found_by_cached }
