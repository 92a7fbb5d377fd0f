use Rattle.std.proofs.Common.{sym, subst}
use Rattle.plan.specs.Names.{DefinesName}
use Rattle.plan.proofs.Symbols.{batch_defines}
use Rattle.plan.proofs.code.Code.put_effect.Goals as goal

pub put-requires-clause-names : goal.put-requires-clause-names
put-requires-clause-names c =
    subst DefinesName (sym c.in-Batch.is) (batch_defines c.in-Batch.listed c.in-Batch.entries c.in-Batch.includes)
