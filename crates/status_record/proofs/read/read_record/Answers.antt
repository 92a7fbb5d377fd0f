use Rattle.status_record.proofs.OneFault.{answer_error_sound, answer_error_complete}
use Rattle.status_record.proofs.Only.{answer_sound, answer_complete}
use Rattle.status_record.proofs.read.read_record.Goals as goal

pub returns-clause-sound : goal.returns-clause-sound
returns-clause-sound c = answer_sound _ _ c.read_text.ensures

pub returns-clause-complete : goal.returns-clause-complete
returns-clause-complete c = answer_complete _ _ c.read_text.ensures

pub returns-clause-error_sound : goal.returns-clause-error_sound
returns-clause-error_sound c = answer_error_sound _ _ c.read_text.ensures

pub returns-clause-error_complete : goal.returns-clause-error_complete
returns-clause-error_complete c = answer_error_complete _ _ c.read_text.ensures
