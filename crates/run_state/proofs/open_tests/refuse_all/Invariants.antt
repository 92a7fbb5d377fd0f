use Rattle.std.proofs.Common.{◌≡◌, length}
use Rattle.plan.specs.Broken.{refused_all}
use Rattle.run_state.proofs.open_tests.refuse_all.Given as goal

abbrev pub invariant-loop-name : goal.invariant-loop-name
invariant-loop-name l = refused_all l.tests l.store ≡ refused_all l.fn.tests l.fn.store

abbrev pub decreases-loop-name : goal.decreases-loop-name
decreases-loop-name l = length l.tests
