use Rattle.file_texts.proofs.Writings.{none_kept}
use Rattle.file_texts.proofs.writing.mode_of.Goals as goal

pub returns-in-None : goal.returns-in-None
returns-in-None g c = none_kept (g.D.Disk.known c.args.disk.now) c.args.keeps c.args.old c.args.other.now c.in-None.is
