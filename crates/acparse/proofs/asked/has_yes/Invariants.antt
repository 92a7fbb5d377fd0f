use Rattle.std.proofs.Common.{◌≡◌, drop}
use Rattle.acparse.specs.Asked.{has_yes}
use Rattle.ac_tree.specs.Script.{cases_of}
use Rattle.acparse.proofs.asked.has_yes.Given as goal

abbrev pub invariant-loop-case : goal.invariant-loop-case
invariant-loop-case l = has_yes (cases_of (drop l.case-index l.cases)) ≡ has_yes (cases_of l.cases)
