use Rattle.std.proofs.Common.{sym, arith}
use Rattle.std.proofs.lemmas.List.{length-take-le, take_all}
use Rattle.run_test.proofs.directories.within.Goals as goal

pub slice_bounds-result-end : goal.slice_bounds-result-end
slice_bounds-result-end c = sym (length-take-le 65536 c.args.parts.now (omega (arith, c.if-parts-gt-MOST_DIRECTORIES.true)))

pub returns : goal.returns
returns c = sym (take_all 65536 c.args.parts.now (omega (arith, c.if-parts-gt-MOST_DIRECTORIES.false)))
