use Rattle.std.proofs.Common.{◌∙◌, ap, cond, Some}
use Rattle.std.specs.Prelude.{bytes_eq}
use Rattle.output_make.specs.Lookup.{found_in}
use Rattle.output_make.proofs.Lookups.{found_inserted}
use Rattle.output_make.proofs.lookup.insert.Goals as goal

pub returns : goal.returns
returns c q =
    ap (λ es. found_in (λ t. t.now) es q) c.in_ok-insert.ensures.entries ∙ found_inserted (λ t. t.now) c.args.texts.now.entries c.in_ok-key.key c.args.text q
    ∙ ap (λ k. cond (bytes_eq q k) (Some c.args.text.now) (found_in (λ t. t.now) c.args.texts.now.entries q)) c.in_ok-key.ensures.items
