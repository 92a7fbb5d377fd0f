use Rattle.std.proofs.Common.{length, sym, ◌∙◌}
use Rattle.std.proofs.lemmas.Bool.{eqb-true}
use Rattle.std.proofs.lemmas.List.{nil_from_length}
use Rattle.cmd_call.proofs.Fronts.{told_blank}
use Rattle.runner.proofs.inputs.write_said.Goals as goal

pub returns-then-is_empty-clause-told : goal.returns-then-is_empty-clause-told
returns-then-is_empty-clause-told g c =
    told_blank _ c.args.said.now (nil_from_length c.args.said.now (eqb-true (length c.args.said.now) 0 (sym c.is_empty.ensures ∙ c.if-is_empty.true)))
