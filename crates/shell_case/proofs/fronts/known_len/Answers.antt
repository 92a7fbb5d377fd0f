use Rattle.std.proofs.Common.{◌≡◌, ◌-◌, drop, arith}
use Rattle.std.specs.Prelude.{slice_index_or}
use Rattle.shell_case.specs.Fronts.{shared}
use Rattle.shell_case.proofs.Shared.{known_here, length_before}
use Rattle.shell_case.proofs.fronts.known_len.Goals as goal

pub returns-then-len-left : goal.returns-then-len-left
returns-then-len-left c =
    let text = c.args.text.now in
    let from = c.args.stretch.now.from in
    let at = c.args.at in
    let before : slice_index_or c.args.lens.now (at - from) 0 ≡ shared text (drop (at - from) text) =
    length_before text c.args.lens.now at from 0 c.requires.lens c.requires.at c.requires.after (omega (arith, c.if-stretch-at.false)) in
    known_here text from c.args.stretch.now.to at _ (omega (arith, c.if-stretch-at.false)) c.requires.shared (omega (arith, before)) (omega (arith, c.if-len-left.true))

pub returns : goal.returns
returns c =
    let text = c.args.text.now in
    let from = c.args.stretch.now.from in
    let at = c.args.at in
    let before : slice_index_or c.args.lens.now (at - from) 0 ≡ shared text (drop (at - from) text) =
    length_before text c.args.lens.now at from 0 c.requires.lens c.requires.at c.requires.after (omega (arith, c.if-stretch-at.false)) in
    known_here text from c.args.stretch.now.to at _ (omega (arith, c.if-stretch-at.false)) c.requires.shared (omega (arith, before, c.if-len-left.false)) (omega arith)
