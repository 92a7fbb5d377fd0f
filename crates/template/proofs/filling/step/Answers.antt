use Rattle.template.proofs.Steps.{comes_further, comes_written, comes_past_key}
use Rattle.template.proofs.filling.step.Goals as goal

pub returns-in-Some-clause-come : goal.returns-in-Some-clause-come
returns-in-Some-clause-come c =
    comes_past_key c.args.table.now c.args.text.now c.args.made.now.items _ _ _ c.in-Some.value.now c.args.held.start c.args.held.last c.args.at c.args.held.opened c.requires.come c.requires.next
    c.in-Some.ensures.opened c.in-Some.ensures.value c.in_ok-extend_from_slice.ensures.items c.in_ok-extend_from_slice-2.ensures.items c.as_slice.ensures

pub returns-else-at-start-ge-MOST_HELD-clause-come : goal.returns-else-at-start-ge-MOST_HELD-clause-come
returns-else-at-start-ge-MOST_HELD-clause-come c =
    comes_further c.args.table.now c.args.text.now c.args.made.now.items c.args.held.start c.args.held.last c.args.at c.args.held.opened c.requires.come c.requires.next c.in_default.ensures.no_value

pub returns-in_ok-extend_from_slice-3-clause-come : goal.returns-in_ok-extend_from_slice-3-clause-come
returns-in_ok-extend_from_slice-3-clause-come c =
    comes_written c.args.table.now c.args.text.now c.args.made.now.items _ c.args.held.start c.args.at
    (comes_further c.args.table.now c.args.text.now c.args.made.now.items c.args.held.start c.args.held.last c.args.at c.args.held.opened c.requires.come c.requires.next c.in_default.ensures.no_value)
    c.in_ok-extend_from_slice-3.ensures.items
