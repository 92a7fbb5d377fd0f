use Rattle.std.proofs.Common.{◌≡◌, ◌+◌, ◌<◌, ◌++◌, length, take, ap, ◌∙◌, arith, rules}
use Rattle.crew_launch.proofs.ChildLemmas.{kept_fits, read_end, read_more}
use Rattle.crew_launch.proofs.diagnostics.diagnostics.Goals as goal

pub keep-requires : goal.keep-requires
keep-requires g c = kept_fits _ _ _ _ c.loop.invariant.0

pub loop-preserved : goal.loop-preserved
loop-preserved g c =
    let n = c.in_ok-n.n in
    let piece = c.read.new.piece in
    let kept : c.keep.new.text.items ≡ take 65536 (c.loop.text.items ++ take n piece) = search rules in (
      read_more _ _ _ _ piece _ n _ c.loop.invariant.0 c.in_ok-n.ensures.bytes c.in_ok-n.ensures.within (search rules) kept,
      c.read.ensures.counted ∙ ap (λ k. k + 1) c.loop.invariant.1,
      c.in_ok-n.ensures.sound ∙ c.loop.invariant.2,
    )

pub returns-then-n-lt-PIECE_SIZE-clause-kept : goal.returns-then-n-lt-PIECE_SIZE-clause-kept
returns-then-n-lt-PIECE_SIZE-clause-kept g c =
    let n = c.in_ok-n.n in
    let piece = c.read.new.piece in
    let kept : c.keep.new.text.items ≡ take 65536 (c.loop.text.items ++ take n piece) = search rules in
    let short : n < length piece = omega (arith, c.in_ok-n.ensures.size, c.if-n-lt-PIECE_SIZE.true) in
    read_end _ _ _ _ piece _ n _ c.loop.invariant.0 c.in_ok-n.ensures.bytes kept (c.in_ok-n.ensures.end short)
