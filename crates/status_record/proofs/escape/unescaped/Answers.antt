use Rattle.std.proofs.Common.{sym, ◌∙◌, ap}
use Rattle.std.specs.Prelude.{cond, None, Some, option_map}
use Rattle.status_record.proofs.Escapes.{unescaped_more, unescaped_stop, unescaped_end}
use Rattle.status_record.proofs.escape.unescaped.Goals as goal

pub returns-in-None : goal.returns-in-None
returns-in-None c =
    sym (unescaped_stop _ _ _ _ c.loop-byte-test.true (sym c.in_ok-take_byte.ensures ∙ ap (option_map (λ w. (w, c.take_byte.new.out.items))) c.in-None.is)) ∙ c.loop-byte.invariant

pub loop-byte-preserved : goal.loop-byte-preserved
loop-byte-preserved c =
    unescaped_more _ _ (c.in-Some.begins_escape, c.take_byte.new.out.items) _ _ c.loop-byte-test.true (sym c.in_ok-take_byte.ensures ∙ ap (option_map (λ w. (w, c.take_byte.new.out.items))) c.in-Some.is) ∙ c.loop-byte.invariant

pub returns-then-in_escape : goal.returns-then-in_escape
returns-then-in_escape c = sym (unescaped_end _ _ _ _ c.loop-byte-test.false ∙ ap (λ w. cond w None (Some c.loop-byte.out.items)) c.if-in_escape.true) ∙ c.loop-byte.invariant

pub returns : goal.returns
returns c =
    ap Some c.from_vec.ensures ∙ sym (unescaped_end _ _ _ _ c.loop-byte-test.false ∙ ap (λ w. cond w None (Some c.loop-byte.out.items)) c.if-in_escape.false) ∙ c.loop-byte.invariant
