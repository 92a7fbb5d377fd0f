use Rattle.m4quote.specs.ItemValue.{views}
use Rattle.ac_statement.proofs.InsideLemmas.{placed}
use Rattle.ac_statement.proofs.inside.inside.Goals as goal

pub only_run-requires : goal.only_run-requires
only_run-requires c = λ s e. placed c.args.arg.at _ c.args.arg.text.now (views c.in_ok-items.items.items) s c.args.arg.placed c.in_ok-items.ensures.parts (rw c.deref.ensures.value at e)
