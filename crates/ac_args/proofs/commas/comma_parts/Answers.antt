use Rattle.std.proofs.Common.{get_or, sym, ◌∙◌, arith}
use Rattle.ac_args.proofs.PartsLoop.{below, part_grows, part_ends, last_part, texts_push}
use Rattle.ac_args.proofs.commas.comma_parts.Goals as goal
use Rattle.ac_args.proofs.commas.comma_parts.Goals.{then-is_free_comma+in_ok-push, else-is_free_comma}

pub loop-at-preserved : goal.loop-at-preserved
loop-at-preserved c =
    elim c.if-is_free_comma.branch [
      | then-is_free_comma+in_ok-push w ↦
          rw (w.parts-is, w.start-is, w.depth-is) (record {
            begun = omega arith;
            shallow = omega arith;
            so_far = part_ends _ _ _ _ _ _ _ c.loop-at-test.true (sym c.is_free_comma.ensures ∙ w.if-is_free_comma.true) (texts_push _ _ _ w.in_ok-push.ensures.items) c.loop-at.invariant.so_far;
          })
      | else-is_free_comma w ↦
          rw (w.parts-is, w.start-is) (record {
            begun = omega arith;
            shallow = below _ _ (get_or c.args.text.now c.loop-at.at 0) (w.depth-is ∙ w.depth_after-depth.ensures) c.loop-at.invariant.shallow;
            so_far = part_grows _ _ _ _ _ _ _ c.loop-at.invariant.begun c.loop-at-test.true (sym c.is_free_comma.ensures ∙ w.if-is_free_comma.false) (w.depth-is ∙ w.depth_after-depth.ensures) c.loop-at.invariant.so_far;
          })
    ]

pub returns : goal.returns
returns c = record { value = last_part _ _ _ _ _ _ _ c.loop-at-test.false (texts_push _ _ _ c.in_ok-push-2.ensures.items) c.loop-at.invariant.so_far }
