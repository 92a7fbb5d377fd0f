use Rattle.options_line.proofs.Keepings.{settings_kept}
use Rattle.options_line.proofs.laws.kept_settings.Goals as goal

pub returns : goal.returns
returns c = λ i j arguments settings h. settings_kept h j
