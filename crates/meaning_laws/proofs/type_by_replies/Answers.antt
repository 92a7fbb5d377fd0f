use Rattle.meaning_laws.proofs.Types as lemmas
use Rattle.meaning_laws.proofs.type_by_replies.Goals as goal

pub returns : goal.returns
returns c = record { replies = lemmas.type_by_replies }
