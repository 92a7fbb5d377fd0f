use Rattle.engine_restarts.proofs.Starting as lemmas
use Rattle.engine_restarts.proofs.second_call_starts.Goals as goal

pub returns : goal.returns
returns c = record { law = lemmas.second_call_starts (record { commands = c.sources_have_forms.ensures.commands; names = c.sources_have_forms.ensures.names }) }
