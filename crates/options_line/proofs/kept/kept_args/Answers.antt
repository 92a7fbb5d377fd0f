use Rattle.options_line.proofs.Cuttings.{answer_kept, answer_only}
use Rattle.options_line.proofs.kept.kept_args.Goals as goal

pub returns-clause-sound : goal.returns-clause-sound
returns-clause-sound c = answer_kept _ _ c.kept_in.ensures

pub returns-clause-complete : goal.returns-clause-complete
returns-clause-complete c = answer_only _ _ c.kept_in.ensures
