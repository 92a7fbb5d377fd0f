use Rattle.file_texts.proofs.Writings.{mode_of_file}
use Rattle.file_texts.proofs.writing.mode_for.Goals as goal

pub returns : goal.returns
returns c = mode_of_file c.args.keeps c.args.old c.args.new c.executable-executable.result c.executable-executable.ensures
