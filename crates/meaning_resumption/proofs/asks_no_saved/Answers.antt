use Rattle.meaning_resumption.proofs.Unasked as lemmas
use Rattle.meaning_resumption.proofs.asks_no_saved.Goals as goal

pub returns : goal.returns
returns c = record { law = lemmas.asks_no_saved }
