use Rattle.cmd_explain.proofs.Parts.{any_listed}
use Rattle.cmd_explain.specs.Shortages.{shortages}
use Rattle.cmd_explain.proofs.shortages.names_shortage.Goals as goal

pub returns : goal.returns
returns c = any_listed c.has_one.result c.args.diagnostics.now c.shortages.result.now shortages c.has_one.ensures c.shortages.ensures
