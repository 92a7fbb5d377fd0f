use Rattle.file_laws.proofs.Makings.{made_twice}
use Rattle.file_laws.proofs.example.packages_can_be_made_again.Goals as goal

pub returns : goal.returns
returns c = made_twice c.remakes_agree.ensures.agree c.status_makes_the_same.ensures
