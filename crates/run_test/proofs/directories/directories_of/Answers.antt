use Rattle.std.proofs.Common.{map, ap, ◌∙◌}
use Rattle.run_test.proofs.PathParts.{directories_are}
use Rattle.run_test.proofs.directories.directories_of.Goals as goal

pub returns : goal.returns
returns c =
    c.from_vec.ensures
    ∙ directories_are _ c.within.result.now c.as_slice.result.now c.without_last_empty.result.now c.args.path.now c.in_ok-directories.ensures c.within.ensures c.without_last_empty.ensures (ap (map (λ part. part.now)) c.as_slice.ensures.value ∙ c.in_ok-parts.ensures.value)
