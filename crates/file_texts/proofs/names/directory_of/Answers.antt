use Rattle.std.proofs.Common.{◌≡◌, Some, take, arith, rules, ap, sym, ◌∙◌}
use Rattle.std.proofs.lemmas.Str.Pattern.{rfind_char}
use Rattle.file_texts.specs.Names.{before_index}
use Rattle.file_texts.proofs.Slashes.{last_slash_is}
use Rattle.file_texts.proofs.names.directory_of.Goals as goal

pub returns-in-Some : goal.returns-in-Some
returns-in-Some c =
    let name = c.args.name.now in
    let found = last_slash_is name c.rfind.result (rfind_char 47 name c.rfind.result c.rfind.ensures.cases (omega arith)) in
    let front : c.range.result.now ≡ take c.in-Some.at name = search rules in
    ap (λ t. Some t) front ∙ sym (ap (before_index name) (found ∙ c.in-Some.is))

pub returns-in-None : goal.returns-in-None
returns-in-None c =
    let name = c.args.name.now in
    let found = last_slash_is name c.rfind.result (rfind_char 47 name c.rfind.result c.rfind.ensures.cases (omega arith)) in
    sym (ap (before_index name) (found ∙ c.in-None.is))
