use Rattle.file_laws.proofs.Absents.{each_links}
use Rattle.file_laws.proofs.rerun.real_disks_need_premises.Goals as goal

pub returns-clause-links : goal.returns-clause-links
returns-clause-links c = each_links
