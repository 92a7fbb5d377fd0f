use Rattle.meaning_laws.proofs.CachedTests.{set_row_asks_nothing}
use Rattle.meaning_laws.proofs.set_row_asks_nothing.Goals as goal

pub returns : goal.returns
returns c = record { nothing = set_row_asks_nothing }
