use Rattle.std.proofs.Common.{◌≡◌, length}
use Rattle.plan.specs.Broken.{unset_all}
use Rattle.run_state.proofs.open_tests.unset_all.Given as goal

abbrev pub invariant-loop-name : goal.invariant-loop-name
invariant-loop-name l = unset_all l.tests l.store ≡ unset_all l.fn.tests l.fn.store

abbrev pub decreases-loop-name : goal.decreases-loop-name
decreases-loop-name l = length l.tests
