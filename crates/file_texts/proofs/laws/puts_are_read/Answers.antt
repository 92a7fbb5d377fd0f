use Rattle.file_texts.proofs.Reread.{own_is_read}
use Rattle.file_texts.proofs.laws.puts_are_read.Goals as goal

pub returns : goal.returns
returns c = own_is_read
