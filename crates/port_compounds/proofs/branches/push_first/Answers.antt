use Rattle.std.proofs.Common.{map, refl, subst}
use Rattle.port_compounds.specs.Ifs as specs
use Rattle.port_parts.proofs.Steps.{on_true}
use Rattle.port_compounds.proofs.branches.push_first.Goals as goal

pub returns : goal.returns
returns c =
    on_true (λ adds. specs.AreBranches.first (c.if-not-is_word.ensures refl) (subst (λ items. specs.AddsBranch c.args.text.now c.args.branch.start c.args.branch.end (map (λ p. p.now) items) (map (λ p. p.now) c.push_branch.new.out.items)) c.requires adds))
    c.push_branch.result c.push_branch.ensures
