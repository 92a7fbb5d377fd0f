use Rattle.meaning_laws.proofs.Refusals as lemmas
use Rattle.meaning_laws.proofs.cuts_at_refusals.Goals as goal

pub returns : goal.returns
returns c = record { law = lemmas.cuts_at_refusals; told = lemmas.cuts_are_told }
