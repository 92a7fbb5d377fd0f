use Rattle.run_test.proofs.Ends.{scope_is, state_is}
use Rattle.run_test.proofs.trying.end_set.Goals as goal

pub returns-clause-scope : goal.returns-clause-scope
returns-clause-scope c = scope_is c.end_with.result c.args.course.now c.args.value.now _ c.args.about.now c.end_with.new.about c.args.store.now c.some.ensures c.end_with.ensures.scope

pub returns-clause-state : goal.returns-clause-state
returns-clause-state c =
    state_is c.end_with.result c.args.course.now _ c.args.value.now _ c.args.store.now _ c.end_with.new.store c.some.ensures c.name_of.ensures c.in_ok-set.ensures c.end_with.ensures.state
