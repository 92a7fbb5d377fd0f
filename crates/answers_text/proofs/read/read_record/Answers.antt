use Rattle.std.proofs.Common.{refl}
use Rattle.answers_text.proofs.Apart.{made}
use Rattle.answers_text.proofs.Taken.{stopped_after, record_next}
use Rattle.answers_text.proofs.read.read_record.Goals as goal

pub returns-in_default-after-clause-none : goal.returns-in_default-after-clause-none
returns-in_default-after-clause-none c = record {
  ends =
      stopped_after c.args.digest.now c.as_slice.result.now c.args.text.now c.in-Some.after_body.now c.front_of-body.result.now c.digest_of-next.result
      (made c.in-Some.number c.in-Some.job.now c.in-Some.status c.in-Some.said.now)
      c.in-Some.ensures.sound c.in-Some.ensures.complete c.as_slice.ensures c.front_of-body.ensures c.digest_of-next.ensures c.in_default-after.ensures.none;
  records_are = refl;
  digest_is = refl;
}

pub returns-clause-next : goal.returns-clause-next
returns-clause-next c =
    record_next c.args.digest.now c.as_slice.result.now c.args.text.now c.in-Some.after_body.now c.front_of-body.result.now c.digest_of-next.result c.in-Some-after.rest.now
    c.args.records.now.items c.push.new.self.items
    (made c.in-Some.number c.in-Some.job.now c.in-Some.status c.in-Some.said.now)
    c.in_ok-job.job c.in_ok-said.said
    c.in-Some.ensures.sound c.in-Some.ensures.writable c.as_slice.ensures c.front_of-body.ensures c.digest_of-next.ensures c.in-Some-after.ensures.sound
    c.in_ok-job.ensures.equal c.in_ok-said.ensures.equal c.in_ok-push.ensures.items
