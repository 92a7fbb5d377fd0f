use Rattle.std.proofs.Common.{ℕ, ◌+◌, sym, subst, ◌∙◌, arith}
use Rattle.shell_case.proofs.Counting.{group_within}
use Rattle.shell_case.proofs.Steps.{Going, whole_group, not_at_front, at_front, front_group, slice_is_group, at_last, group_missing, group_passed}
use Rattle.shell_case.proofs.parts.match_parts.Goals as goal

pub returns-then-first-pieces : goal.returns-then-first-pieces
returns-then-first-pieces c = c.fits_whole.ensures ∙ whole_group c.args.pieces.now c.args.text.now (sym c.group_len-first.ensures.value ∙ c.if-first-pieces.true)

pub returns-then-not-fits : goal.returns-then-not-fits
returns-then-not-fits c =
    let front = front_group c.args.pieces.now c.args.text.now _ _ c.group_len-first.ensures.value c.fits.ensures in
    not_at_front c.args.pieces.now c.args.text.now (omega (arith, c.group_len-first.ensures.value, group_within c.args.pieces.now, c.if-first-pieces.false)) (sym front ∙ c.if-not-fits.true)

pub groups-init : goal.groups-init
groups-init c =
    let front = front_group c.args.pieces.now c.args.text.now _ _ c.group_len-first.ensures.value c.fits.ensures in
    subst (λ (n : ℕ). Going c.args.pieces.now c.args.text.now (n + 1) n) (sym c.group_len-first.ensures.value)
    (at_front c.args.pieces.now c.args.text.now (omega (arith, c.group_len-first.ensures.value, group_within c.args.pieces.now, c.if-first-pieces.false)) (sym front ∙ c.if-not-fits.false))

pub returns-then-end-pieces : goal.returns-then-end-pieces
returns-then-end-pieces c =
    at_last c.args.pieces.now c.args.text.now c.groups.piece c.groups.at _ c.group_len-len.ensures.value c.fits_end.result c.groups.invariant c.if-end-pieces.true c.fits_end.ensures

pub first_place-requires : goal.first_place-requires
first_place-requires c = record { single = slice_is_group c.args.pieces.now c.args.text.now c.groups.piece c.groups.at _ c.group_len-len.ensures.value }

pub returns-in_default : goal.returns-in_default
returns-in_default c =
    group_missing c.args.pieces.now c.args.text.now c.groups.piece c.groups.at _ c.group_len-len.ensures.value c.groups.invariant c.if-end-pieces.false
    _ c.in_default.is c.in_ok-place.ensures.place

pub groups-preserved : goal.groups-preserved
groups-preserved c =
    group_passed c.args.pieces.now c.args.text.now c.groups.piece c.groups.at _ c.group_len-len.ensures.value c.groups.invariant c.if-end-pieces.false
    _ _ c.in-Some.is c.in_ok-place.ensures.place
