use Rattle.meaning_laws.proofs.BatchDeeds.{answers_are_left}
use Rattle.meaning_laws.proofs.answers_are_left.Goals as goal

pub returns : goal.returns
returns c = record { left = answers_are_left }
