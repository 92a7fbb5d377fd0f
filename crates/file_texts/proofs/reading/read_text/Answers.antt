use Rattle.std.proofs.Common.{IfSome, subst}
use Rattle.file_texts.specs.Reading.{IsReadLimited}
use Rattle.file_texts.proofs.Readings.{whole_read}
use Rattle.file_texts.proofs.reading.read_text.Goals as goal

pub returns-in-Some-clause-text : goal.returns-in-Some-clause-text
returns-in-Some-clause-text g c =
    let known = g.D.Disk.known c.args.disk.now in
    whole_read known c.args.name.now c.in-Some.text c.if_whole.result
    (subst (λ o. IfSome known (λ k. IsReadLimited k c.args.name.now o)) c.in-Some.is c.in_ok-text.ensures.text)
    c.if_whole.ensures.text c.if_whole.ensures.limit c.if_whole.ensures.larger
