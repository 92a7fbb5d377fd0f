use Rattle.ac_laws.proofs.Helps as lemmas
use Rattle.ac_laws.proofs.help_is_given.Goals as goal

pub returns : goal.returns
returns c = record { law = lemmas.help_is_given; unread = lemmas.unread_help_is_refused }
