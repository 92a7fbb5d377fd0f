use Rattle.std.proofs.Common.{◌+◌, ◌≤◌, length, sym, ap, ◌∙◌, arith}
use Rattle.file_texts.specs.Parted.{is_marker}
use Rattle.file_texts.proofs.Markers.{is_line_len, is_first_line, marker_true, marker_false, parted_here, unmarked_here, stands_at_next}
use Rattle.file_texts.proofs.marker.marker_place.Goals as goal

pub returns-then-is_marker-clause-parted : goal.returns-then-is_marker-clause-parted
returns-then-is_marker-clause-parted c =
    let len_is = is_line_len c.args.input.now c.lines.start c.line_len-len.result c.line_len-len.ensures.value in
    parted_here _ _ (sym (is_first_line c.args.input.now c.lines.start c.line_len-len.result len_is) ∙ marker_true _ (sym c.is_marker.ensures ∙ c.if-is_marker.true)) c.lines.invariant.stands

pub returns-then-start-len-clause-no_marker : goal.returns-then-start-len-clause-no_marker
returns-then-start-len-clause-no_marker c =
    let len_is = is_line_len c.args.input.now c.lines.start c.line_len-len.result c.line_len-len.ensures.value in
    unmarked_here _ _ _ len_is (marker_false _ (ap is_marker (sym (is_first_line c.args.input.now c.lines.start c.line_len-len.result len_is)) ∙ sym c.is_marker.ensures ∙ c.if-is_marker.false)) c.lines.invariant.within c.if-start-len.true c.lines.invariant.stands

pub lines-preserved : goal.lines-preserved
lines-preserved c =
    let len_is = is_line_len c.args.input.now c.lines.start c.line_len-len.result c.line_len-len.ensures.value in
    let inside : c.lines.start + c.line_len-len.result ≤ length c.args.input.now = omega arith in
    record {
      within = omega arith;
      stands = stands_at_next _ _ _ len_is (marker_false _ (ap is_marker (sym (is_first_line c.args.input.now c.lines.start c.line_len-len.result len_is)) ∙ sym c.is_marker.ensures ∙ c.if-is_marker.false)) (omega arith) c.lines.invariant.stands;
    }
