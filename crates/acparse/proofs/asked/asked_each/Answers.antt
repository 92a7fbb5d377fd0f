use Rattle.std.proofs.Common.{sym, ap, ◌∙◌}
use Rattle.std.specs.Prelude.{◌==◌}
use Rattle.ac_tree.specs.declared.statement.Question.TheVariants.{ChecksEach}
use Rattle.ac_tree.specs.Script.{cases_of}
use Rattle.acparse.specs.Asked.{asked_by}
use Rattle.acparse.proofs.Questions.{asked_some}
use Rattle.acparse.proofs.asked.asked_each.Goals as goal

pub returns-else-is_empty : goal.returns-else-is_empty
returns-else-is_empty c =
    let cases = c.args.cases.items in
    c.choose_each.ensures
    ∙ sym (asked_some c.args.declares c.in-ListEntry.listed c.args.entries c.args.includes cases (ap (λ n. n == 0) (sym c.args.cases.ok.0) ∙ sym c.is_empty.ensures ∙ c.if-is_empty.false))
    ∙ ap (λ s. asked_by c.args.declares (ChecksEach s c.args.entries c.args.includes) (cases_of cases)) (sym c.in-ListEntry.is)
