use Rattle.meaning_laws.proofs.Refusals as lemmas
use Rattle.meaning_resumption.proofs.cuts_at_refusals.Goals as goal

pub returns : goal.returns
returns c = record { law = lemmas.cuts_at_refusals }
