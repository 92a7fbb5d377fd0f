use Rattle.meaning_laws.proofs.Accounting.{deeds_account}
use Rattle.meaning_laws.proofs.deeds_account.Goals as goal

pub returns : goal.returns
returns c = record { account = deeds_account }
