use Rattle.shellword.proofs.PatternReading.{listed-faults}
use Rattle.shellword.proofs.pattern.read_whole.Goals as goal

pub returns-in-Ok-clause-fault : goal.returns-in-Ok-clause-fault
returns-in-Ok-clause-fault c = listed-faults c.args.text.now c.in-Ok.tokens.items (λ v. v.items) c.alternatives_of.result c.in-Ok.ensures.value c.alternatives_of.ensures
