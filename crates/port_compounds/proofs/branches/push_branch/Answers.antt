use Rattle.std.proofs.Common.{refl}
use Rattle.port_compounds.proofs.Steps.{branch_added, of_some}
use Rattle.port_compounds.proofs.branches.push_branch.Goals as goal

pub returns : goal.returns
returns c =
    λ _. branch_added (λ p. p.now) c.args.text.now c.args.branch.start c.args.branch.at_then c.saturating_add-after_then.result c.args.branch.end c.args.out.now.items c.push.new.self.items
    c.push-2.new.self.items c.in-Some.test c.in-Some-body.done (of_some _ c.in_ok-test.field-0 c.in-Some.test c.in-Some.is c.in_ok-test.ensures).0 (c.if-not-is_word.ensures refl) c.in-Some-body.ensures
    c.in_ok-push.ensures.items c.in_ok-push-2.ensures.items
