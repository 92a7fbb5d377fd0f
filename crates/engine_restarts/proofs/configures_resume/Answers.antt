use Rattle.engine_restarts.proofs.Reports as lemmas
use Rattle.engine_restarts.proofs.configures_resume.Goals as goal

pub returns : goal.returns
returns c = record { law = lemmas.configures_resume (record { commands = c.sources_have_forms.ensures.commands; names = c.sources_have_forms.ensures.names }) c.whole_runs_resume.ensures.law c.asks_no_saved.ensures.law }
