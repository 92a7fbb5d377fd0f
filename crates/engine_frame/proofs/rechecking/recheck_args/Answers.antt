use Rattle.engine_frame.proofs.Rechecks.{answer_sound, answer_complete, none_sound, none_complete}
use Rattle.engine_frame.proofs.rechecking.recheck_args.Goals as goal

pub returns-clause-sound : goal.returns-clause-sound
returns-clause-sound c = answer_sound c.records.ensures.sound _ _ c.args_in.ensures

pub returns-clause-complete : goal.returns-clause-complete
returns-clause-complete c = answer_complete c.records.ensures.complete _ _ c.args_in.ensures

pub returns-clause-none_sound : goal.returns-clause-none_sound
returns-clause-none_sound c = none_sound c.records.ensures.sound _ _ c.args_in.ensures

pub returns-clause-none_complete : goal.returns-clause-none_complete
returns-clause-none_complete c = none_complete c.records.ensures.complete _ _ c.args_in.ensures
