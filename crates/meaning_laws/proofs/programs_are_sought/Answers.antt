use Rattle.meaning_laws.proofs.Programs as lemmas
use Rattle.meaning_laws.proofs.programs_are_sought.Goals as goal

pub returns : goal.returns
returns c = record { sought = lemmas.programs_are_sought; cached = lemmas.cached_is_not_sought; own = lemmas.own_is_not_sought }
