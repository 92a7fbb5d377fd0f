use Rattle.std.proofs.Common.{◌≡◌, ◌++◌, ◌-◌, length, take, min, ap, ◌∙◌, rules}
use Rattle.crew_launch.proofs.ChildLemmas.{kept_on, kept_take}
use Rattle.crew_launch.proofs.diagnostics.keep.Goals as goal

pub returns : goal.returns
returns c =
    let text = c.args.text.now.items in
    let piece = c.args.piece.now in
    let kept : c.min-kept.result ≡ min (65536 - length text) (length piece) = search rules in
    kept_on _ text _ _ _ c.extend_from_slice.ensures.items (ap (λ n. text ++ take n piece) kept ∙ kept_take text piece c.requires)
