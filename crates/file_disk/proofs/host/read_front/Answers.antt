use Rattle.std.proofs.Common.{ap}
use Rattle.file_disk.proofs.Front.{is_front_read}
use Rattle.file_disk.proofs.host.read_front.Goals as goal

pub returns-in-Ok : goal.returns-in-Ok
returns-in-Ok g c =
    rw c.from_vec.ensures (
    is_front_read 67108865 c.take.result.limit (g.R.Read.remaining c.args.reader.now) (g.R.Read.remaining c.take.result.inner.now) c.in_ok-text.text.items c.read_to_end.new.buf.items
    c.take.ensures.limit (ap (λ r. g.R.Read.remaining r.now) c.take.ensures.inner) c.in_ok-text.ensures.items c.in-Ok.ensures.bytes
    )
