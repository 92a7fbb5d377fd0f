use Rattle.std.proofs.Common.{◌≡◌, ◌∷◌, rules}
use Rattle.crew_launch.proofs.Naming.{all_unstarted}
use Rattle.crew_launch.proofs.starting.start_child.Goals as goal

pub returns-in-Ok-clause-cause : goal.returns-in-Ok-clause-cause
returns-in-Ok-clause-cause g c =
    let parts : c.in-Ok.program.now ∷ c.in-Ok.arguments.now ≡ c.args.job.now.words = search rules in
    all_unstarted _ _ _ _ _ parts c.start_words.ensures.cause
