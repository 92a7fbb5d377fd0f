use Rattle.std.proofs.Common.{◌≡◌, ◌+◌, drop, arith, rules, ap, sym, ◌∙◌}
use Rattle.std.proofs.lemmas.Str.Pattern.{rfind_char}
use Rattle.file_texts.specs.Names.{after_index}
use Rattle.file_texts.proofs.Slashes.{last_slash_is}
use Rattle.file_texts.proofs.names.last_of.Goals as goal

pub returns-in-Some : goal.returns-in-Some
returns-in-Some c =
    let name = c.args.name.now in
    let found = last_slash_is name c.rfind.result (rfind_char 47 name c.rfind.result c.rfind.ensures.cases (omega arith)) in
    let front : c.range_from.result.now ≡ drop (c.in-Some.at + 1) name = search rules in
    front ∙ sym (ap (after_index name) (found ∙ c.in-Some.is))

pub returns-in-None : goal.returns-in-None
returns-in-None c =
    let name = c.args.name.now in
    let found = last_slash_is name c.rfind.result (rfind_char 47 name c.rfind.result c.rfind.ensures.cases (omega arith)) in
    sym (ap (after_index name) (found ∙ c.in-None.is))
