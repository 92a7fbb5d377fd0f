use Rattle.output_make.proofs.Lookups.{found_back, none_found}
use Rattle.output_make.proofs.lookup.texts_of.Goals as goal

pub templates-init : goal.templates-init
templates-init c = none_found (λ t. t.now) c.new-texts.result.entries c.args.given.now c.new-texts.ensures.empty

pub templates-preserved : goal.templates-preserved
templates-preserved c =
    found_back (λ t. t.now) c.templates.texts.entries c.insert.new.texts.entries c.args.given.now c.templates.i c.index-given-i.result c.as_slice.result.now c.as_slice-in-templates.result.now
    c.templates-test.true c.templates.auto.i c.index-given-i.is c.as_slice.ensures c.as_slice-in-templates.ensures c.templates.invariant c.in_ok-insert.ensures
