use Rattle.std.proofs.Common.{sym, ap, ◌∙◌}
use Rattle.std.specs.Prelude.{◌==◌}
use Rattle.acparse.proofs.Texts.{some_case}
use Rattle.acparse.proofs.read.case_if.Goals as goal

pub returns : goal.returns
returns c = sym (some_case c.args.when c.args.given c.args.body.items (ap (λ n. n == 0) (sym c.args.body.ok.0) ∙ sym c.is_empty.ensures ∙ c.if-is_empty.false))
