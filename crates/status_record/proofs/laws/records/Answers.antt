use Rattle.status_record.proofs.Only.{record_in-sound, record_in-complete, one_record, one_text, one_version}
use Rattle.status_record.proofs.laws.records.Goals as goal

pub returns-clause-one_record : goal.returns-clause-one_record
returns-clause-one_record c = one_record

pub returns-clause-one_text : goal.returns-clause-one_text
returns-clause-one_text c = one_text

pub returns-clause-one_version : goal.returns-clause-one_version
returns-clause-one_version c = one_version

pub returns-clause-sound : goal.returns-clause-sound
returns-clause-sound c = record_in-sound

pub returns-clause-complete : goal.returns-clause-complete
returns-clause-complete c = record_in-complete
