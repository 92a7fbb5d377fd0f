use Rattle.port_compounds.proofs.Steps.{begun_with}
use Rattle.port_compounds.proofs.cases.push_head.Goals as goal

pub returns : goal.returns
returns c =
    begun_with (λ p. p.now) c.args.text.now c.args.start _ c.args.out.now.items c.push.new.self.items c.in_ok-word.field-0 c.in-Some.word c.requires c.in-Some.is c.in_ok-push.ensures.items c.in_ok-word.ensures
