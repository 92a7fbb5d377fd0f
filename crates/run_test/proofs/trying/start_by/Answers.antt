use Rattle.std.proofs.Common.{ap, sym, ◌∙◌}
use Rattle.std.specs.Prelude.{Some}
use Rattle.run_test.proofs.Flows.{known_leads}
use Rattle.run_test.proofs.trying.start_by.Goals as goal

pub returns-in_ok-flow-in-Some-clause-leads : goal.returns-in_ok-flow-in-Some-clause-leads
returns-in_ok-flow-in-Some-clause-leads c =
    let f = c.in_ok-flow-in-Some in
    known_leads f.flow c.args.value c.as_slice.result.now c.args.course c.args.about.now c.end_cached.new.about c.args.store.now c.end_cached.new.store
    (c.in-Some.is ∙ ap Some (sym c.as_slice.ensures)) f.ensures.passes f.ensures.scope f.ensures.state
