use Rattle.crew_jobs.proofs.Turns.{push_image}
use Rattle.crew_jobs.proofs.words.push_all.Goals as goal

pub loop-field-preserved : goal.loop-field-preserved
loop-field-preserved c =
    push_image (λ field. field.now) c.args.words.now c.loop-field.words c.push.new.self c.args.fields.now c.loop-field.field-index _ c.loop-field-test.true c.loop-field.invariant c.in_ok-push.ensures.ok
