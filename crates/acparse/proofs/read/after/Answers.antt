use Rattle.std.proofs.Common.{rules, ◌≡◌, ◌∙◌, sym, ap, map, length, min}
use Rattle.std.proofs.lemmas.List.{take_rest, drop-map, drop_min}
use Rattle.m4quote.specs.ItemValue.{span}
use Rattle.acparse.proofs.read.after.Goals as goal

-- src/read.rt:122:1
pub returns : goal.returns
returns c =
    let args = c.args.args.now in
    let kept : c.min.result ≡ min c.args.count (length args) = search rules in
    rw (take_rest args c.min.result, kept) (ap (map span) (drop_min c.args.count args) ∙ sym (drop-map span c.args.count args))
