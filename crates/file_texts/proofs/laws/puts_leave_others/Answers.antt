use Rattle.file_texts.proofs.Reread.{other_is_read}
use Rattle.file_texts.proofs.laws.puts_leave_others.Goals as goal

pub returns : goal.returns
returns c = other_is_read
