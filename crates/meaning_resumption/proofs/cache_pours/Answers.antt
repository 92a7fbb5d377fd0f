use Rattle.meaning_resumption.proofs.Pouring as lemmas
use Rattle.meaning_resumption.proofs.cache_pours.Goals as goal

pub returns : goal.returns
returns c = record { law = lemmas.cache_pours }
