use Rattle.std.proofs.Common.{◌<◌, ◌++◌, codes, arith, sym, ap, ◌∙◌}
use Rattle.template.proofs.Places.{up_more, up_of_none, up_one}
use Rattle.template.proofs.paths.up.Goals as goal

pub returns-then-directories-eq0 : goal.returns-then-directories-eq0
returns-then-directories-eq0 c = up_of_none c.from_slice.result c.args.directories c.if-directories-eq0.true c.from_slice.ensures.items

pub loop-i-init : goal.loop-i-init
loop-i-init c = c.in_ok-way.ensures.items ∙ sym up_one

pub loop-i-preserved : goal.loop-i-preserved
loop-i-preserved c =
    let some : 0 < c.loop-i._i = omega (arith, c.loop-i.auto._i) in
    c.in_ok-extend_from_slice.ensures.items ∙ ap (λ t. t ++ codes "/..") c.loop-i.invariant ∙ sym (up_more c.loop-i._i some)
