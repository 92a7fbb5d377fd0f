use Rattle.std.proofs.Common.{sym, ap, ◌∙◌, nat_eq}
use Rattle.std.specs.List.{starts_with}
use Rattle.std.proofs.lemmas.List.{take_rest}
use Rattle.ac_args.specs.Help.{help_string_name}
use Rattle.ac_args.proofs.HelpParts.{part_more, part_stop}
use Rattle.ac_args.proofs.helping.has_help_string.Goals as goal

pub returns-then-starts_with : goal.returns-then-starts_with
returns-then-starts_with c =
    sym (part_stop _ c.args.text.now c.loop-i.i c.loop-i-test.true
    (ap (λ t. starts_with nat_eq t help_string_name) (sym (take_rest c.args.text.now c.loop-i.i)) ∙ sym c.if-starts_with.ensures.value) c.loop-i.invariant)

pub loop-i-preserved : goal.loop-i-preserved
loop-i-preserved c =
    part_more _ c.args.text.now c.loop-i.i c.loop-i-test.true
    (ap (λ t. starts_with nat_eq t help_string_name) (sym (take_rest c.args.text.now c.loop-i.i)) ∙ sym c.if-starts_with.ensures.value) c.loop-i.invariant
