use Rattle.cmd_explain.proofs.Parts.{any_listed}
use Rattle.cmd_explain.specs.Shortages.{signals}
use Rattle.cmd_explain.proofs.shortages.names_signal.Goals as goal

pub returns : goal.returns
returns c = any_listed c.has_one.result c.args.diagnostics.now c.signals.result.now signals c.has_one.ensures c.signals.ensures
