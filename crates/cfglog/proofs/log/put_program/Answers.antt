use Rattle.std.proofs.Common.{◌≡◌, ◌∙◌, ap, append_assoc, ◌++◌, codes, flat_map, List, ℕ}
use Rattle.bstr.specs.Text.{lines_of}
use Rattle.cfglog.specs.Texts.{closed}
use Rattle.cfglog.proofs.log.put_program.Goals as goal

pub returns : goal.returns
returns c =
    let marked : List ℕ = flat_map (λ line. codes "| " ++ closed line) (lines_of c.args.program.now) in
    c.in_ok-put_lines.ensures
    ∙ ap (λ t. t ++ marked) c.in_ok-extend_from_slice.ensures.items
    ∙ append_assoc c.args.text.now.items (codes "failed program was:\n") marked
