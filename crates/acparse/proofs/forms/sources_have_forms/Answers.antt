use Rattle.acparse.proofs.Owning.{source_held}
use Rattle.acparse.proofs.TestNaming.{source_named}
use Rattle.acparse.proofs.Whole.{source_found}
use Rattle.acparse.proofs.forms.sources_have_forms.Goals as goal

pub returns-clause-commands : goal.returns-clause-commands
returns-clause-commands c = λ text s e. source_held text s (source_found text s e)

pub returns-clause-names : goal.returns-clause-names
returns-clause-names c = λ text s e. source_named text s (source_found text s e)
