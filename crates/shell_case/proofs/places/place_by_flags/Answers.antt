use Rattle.std.proofs.Common.{◌∙◌, ap, length, arith}
use Rattle.shell_case.proofs.Flags.{nothing_set, count_set}
use Rattle.shell_case.proofs.places.place_by_flags.Goals as goal

pub returns-then-count-len : goal.returns-then-count-len
returns-then-count-len c =
    nothing_set c.args.pieces.now c.args.text.now c.deref.result.now c.unset_count-count.result (c.deref.ensures.value ∙ c.in_ok-flags.ensures) c.requires.some c.requires.long c.unset_count-count.ensures
    (omega (arith, c.if-count-len.true, c.len.ensures, ap length c.deref.ensures.value))

pub returns : goal.returns
returns c =
    count_set c.args.pieces.now c.args.text.now c.deref.result.now c.unset_count-count.result (c.deref.ensures.value ∙ c.in_ok-flags.ensures) c.requires.some c.requires.long c.unset_count-count.ensures
    (omega (arith, c.if-count-len.false, c.len.ensures, ap length c.deref.ensures.value))
