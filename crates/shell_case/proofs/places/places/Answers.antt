use Rattle.std.proofs.Common.{◌-◌, ◌∙◌, ap, length, take, drop, arith}
use Rattle.std.proofs.lemmas.List.{length-take}
use Rattle.shell_case.proofs.Flags.{places_start, with_part, with_last, with_any, room}
use Rattle.shell_case.proofs.places.places.Goals as goal

pub parts-init : goal.parts-init
parts-init c = places_start c.args.pieces.now c.args.text.now c.in_ok-flags.flags.items _ (omega (arith, c.requires.long)) c.in_ok-flags.ensures

pub keep_any-requires : goal.keep_any-requires
keep_any-requires c = λ one.
    let pieces = c.args.pieces.now in
    let rest = take (length pieces - c.parts.at) (drop c.parts.at pieces) in
    room pieces c.args.text.now c.parts.flags.items c.parts.at c.parts.invariant c.requires.long (length c.deref.result.now) one
    (omega (arith, ap length c.deref.ensures.value, c.in_ok-part.ensures.count, length-take c.byte_count-len.result rest, length-take (length pieces - c.parts.at) (drop c.parts.at pieces)))

pub returns-then-at-len : goal.returns-then-at-len
returns-then-at-len c =
    let pieces = c.args.pieces.now in
    let text = c.args.text.now in
    let flags = c.parts.flags.items in
    with_last pieces text flags c.parts.at c.parts.invariant c.byte_count-len.result c.in_ok-flags-2.flags.items c.if-at-len.true
    (with_part pieces text flags c.parts.at c.parts.invariant c.byte_count-len.result c.deref.result.now c.in_ok-flags-2.flags.items c.byte_count-len.ensures.value
    (c.deref.ensures.value ∙ c.in_ok-part.ensures.bytes) c.in_ok-flags-2.ensures)

pub parts-preserved : goal.parts-preserved
parts-preserved c =
    let pieces = c.args.pieces.now in
    let text = c.args.text.now in
    let flags = c.parts.flags.items in
    with_any pieces text flags c.parts.at c.parts.invariant c.byte_count-len.result c.in_ok-flags-2.flags.items c.requires.single c.requires.long c.byte_count-len.ensures.value c.if-at-len.false
    (with_part pieces text flags c.parts.at c.parts.invariant c.byte_count-len.result c.deref.result.now c.in_ok-flags-2.flags.items c.byte_count-len.ensures.value
    (c.deref.ensures.value ∙ c.in_ok-part.ensures.bytes) c.in_ok-flags-2.ensures)
