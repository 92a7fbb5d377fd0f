use Rattle.meaning_laws.proofs.Linking.{libs_are_checked, libs_are_searched}
use Rattle.meaning_laws.proofs.libs_gets_libraries.Goals as goal

pub returns : goal.returns
returns c = record { checked = libs_are_checked; searched = libs_are_searched }
