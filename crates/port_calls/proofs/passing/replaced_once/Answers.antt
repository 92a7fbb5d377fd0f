use Rattle.std.proofs.Common.{subst, sym}
use Rattle.port_passes.specs.Rewritten as specs
use Rattle.port_calls.proofs.passing.replaced_once.Goals as goal

pub pass_text-requires-clause-begun : goal.pass_text-requires-clause-begun
pass_text-requires-clause-begun c = subst (specs.IsPass c.args.idioms c.args.text.now 0) (sym c.new.ensures.items) specs.IsPass.begun
