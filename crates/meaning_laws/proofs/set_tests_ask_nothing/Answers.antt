use Rattle.meaning_laws.proofs.CachedTests.{set_tests_ask_nothing}
use Rattle.meaning_laws.proofs.set_tests_ask_nothing.Goals as goal

pub returns : goal.returns
returns c = record { nothing = set_tests_ask_nothing }
