use Rattle.file_texts.specs.Steps.{old_file, old_link, no_old}
use Rattle.file_texts.proofs.writing.old_of.Goals as goal

pub returns-in-File : goal.returns-in-File
returns-in-File c = rw c.in-File.is (old_file _)

pub returns-in-Link : goal.returns-in-Link
returns-in-Link c = rw c.in-Link.is old_link

pub returns-in-Nothing : goal.returns-in-Nothing
returns-in-Nothing c = rw c.in-Nothing.is no_old
