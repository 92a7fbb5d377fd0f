use Rattle.std.proofs.Common.{◌≡◌, ap, sym, ◌∙◌, Some, get_or, slice_set, length, ◌<◌, arith}
use Rattle.std.specs.Prelude.{unwrap_or}
use Rattle.std.proofs.lemmas.List.Edits.{map_over_more}
use Rattle.std.proofs.lemmas.Option.{slice_get-get_or, get_or_from_slice_get}
use Rattle.crew_trait.specs.declared.reply.Reply.TheVariants.{StartRefused}
use Rattle.run_machine.proofs.machine.refuse_rest.Goals as goal

pub loop-reply-preserved : goal.loop-reply-preserved
loop-reply-preserved c =
    let ys = c.loop-reply.replies in
    let i = c.loop-reply.reply-index in
    let lt : i < length ys = omega arith in
    let same : length ys ≡ length c.args.replies.now = c.loop-reply.auto.replies in
    ap (λ v. slice_set ys i v) c.or_refused.ensures
    ∙ map_over_more (λ r. Some (unwrap_or r StartRefused)) c.args.replies.now ys i (get_or ys i c.reply-item.result) (omega arith) c.loop-reply.invariant (sym (get_or_from_slice_get ys i (get_or ys i c.reply-item.result) _ (slice_get-get_or ys i c.reply-item.result lt)))
