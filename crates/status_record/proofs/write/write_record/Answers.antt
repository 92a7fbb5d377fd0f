use Rattle.status_record.proofs.Only.{text_written, written_read, if_ok}
use Rattle.status_record.proofs.write.write_record.Goals as goal

pub returns-clause-text : goal.returns-clause-text
returns-clause-text c = if_ok c.text_of.result _ _ (λ t e. text_written c.args.status.now t c.requires e) c.text_of.ensures

pub returns-clause-reads_back : goal.returns-clause-reads_back
returns-clause-reads_back c = if_ok c.text_of.result _ _ (λ t e. written_read c.args.status.now t c.requires e) c.text_of.ensures
