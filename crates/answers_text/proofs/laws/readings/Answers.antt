use Rattle.answers_text.proofs.TwoReadings.{one, fronts, cut}
use Rattle.answers_text.proofs.laws.readings.Goals as goal

pub returns-clause-one : goal.returns-clause-one
returns-clause-one c = λ run text a b d e m n first second. one run text a b d e m n first second

pub returns-clause-fronts : goal.returns-clause-fronts
returns-clause-fronts c = λ run text more a b d e m n first second. fronts run text more a b d e m n first second

pub returns-clause-cut : goal.returns-clause-cut
returns-clause-cut c = λ run records given n d m writable first. cut run records given n d m writable first
