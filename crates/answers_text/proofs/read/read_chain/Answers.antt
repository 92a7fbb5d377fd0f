use Rattle.answers_text.proofs.Taken.{chain_more, next_at}
use Rattle.answers_text.proofs.read.read_chain.Goals as goal

pub records-preserved : goal.records-preserved
records-preserved c =
    chain_more c.args.digest.now c.args.text.now c.records.records.items c.read_record.new.records.items c.records.digest c.records.rest.now c.read_record.new.digest c.in-Some.more.now c.records.invariant
    (next_at c.records.digest c.records.rest.now c.records.records.items c.read_record.new.records.items c.read_record.new.digest c.in_ok-more.field-0 c.in-Some.more c.in-Some.is c.in_ok-more.ensures.next)
