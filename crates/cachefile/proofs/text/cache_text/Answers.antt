use Rattle.std.proofs.Common.{rules, ◌≡◌, map}
use Rattle.cachefile.specs.Text.{saved_entries}
use Rattle.cachefile.proofs.Lent.{seen}
use Rattle.cachefile.proofs.Orders.{saved_in_order}
use Rattle.cachefile.proofs.Texts.{returned_is_text, returned_reads_back}
use Rattle.cachefile.proofs.text.cache_text.Goals as goal

pub returns-clause-sound : goal.returns-clause-sound
returns-clause-sound c =
    returned_is_text c.args.vars.now (map seen c.in_ok-entries.entries.entries) c.write.result c.in_ok-entries.ensures.distinct c.in_ok-entries.ensures.order c.in_ok-entries.ensures.entries c.write.ensures

pub returns-clause-reads_back : goal.returns-clause-reads_back
returns-clause-reads_back c =
    returned_reads_back c.args.vars.now (map seen c.in_ok-entries.entries.entries) c.write.result c.in_ok-entries.ensures.distinct c.in_ok-entries.ensures.order c.in_ok-entries.ensures.entries c.write.ensures

pub returns-in-Some-clause-sound : goal.returns-in-Some-clause-sound
returns-in-Some-clause-sound c =
    let es = map seen c.in-Some.list.items in
    let same : es ≡ saved_entries c.args.vars.now = search rules in
    returned_is_text c.args.vars.now es c.write_list.result c.in_ok-near.ensures.distinct (saved_in_order c.args.vars.now es same) same (search rules)

pub returns-in-Some-clause-reads_back : goal.returns-in-Some-clause-reads_back
returns-in-Some-clause-reads_back c =
    let es = map seen c.in-Some.list.items in
    let same : es ≡ saved_entries c.args.vars.now = search rules in
    returned_reads_back c.args.vars.now es c.write_list.result c.in_ok-near.ensures.distinct (saved_in_order c.args.vars.now es same) same (search rules)
