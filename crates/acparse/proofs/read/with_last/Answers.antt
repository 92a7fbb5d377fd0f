use Rattle.std.proofs.Common.{sym, ap, ◌∙◌}
use Rattle.std.specs.Prelude.{option_to_list}
use Rattle.ac_tree.specs.Script.{cases_of, followed}
use Rattle.ac_tree.proofs.ScriptLemmas.{cases_push, followed_none}
use Rattle.acparse.proofs.read.with_last.Goals as goal

pub returns-in-None : goal.returns-in-None
returns-in-None c =
    sym (followed_none (cases_of c.args.cases.items)) ∙ sym (ap (λ o. followed (cases_of c.args.cases.items) (cases_of (option_to_list o))) c.in-None.is)

pub returns-in_ok-push-in-Some : goal.returns-in_ok-push-in-Some
returns-in_ok-push-in-Some c =
    ap cases_of c.in_ok-push-in-Some.ensures.items ∙ cases_push c.args.cases.items c.in-Some.last
    ∙ sym (ap (λ o. followed (cases_of c.args.cases.items) (cases_of (option_to_list o))) c.in-Some.is)
