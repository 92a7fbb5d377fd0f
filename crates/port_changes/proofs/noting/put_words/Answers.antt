use Rattle.std.proofs.Common.{map, ap, ◌∙◌}
use Rattle.port_changes.proofs.Differing.{worded}
use Rattle.port_changes.proofs.noting.put_words.Goals as goal

pub returns : goal.returns
returns c =
    worded c.put_each.result c.args.out.now.items c.put_each.new.out.items c.args.indent.now c.args.idiom.now c.in-Some.list.now c.args.list.now (map (λ n. n.now) c.as_slice.result.now) (map (λ a. a.now) c.args.more.now)
    c.in-Some.ensures.text (ap (map (λ n. n.now)) c.as_slice.ensures.value ∙ c.in_ok-names.ensures.value) c.put_each.ensures
