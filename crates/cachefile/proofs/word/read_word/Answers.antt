use Rattle.std.proofs.Common.{rules, sym, ◌∙◌}
use Rattle.cachefile.proofs.Loops.{read_more, read_stop, read_end}
use Rattle.cachefile.proofs.word.read_word.Goals as goal

pub returns-in_default : goal.returns-in_default
returns-in_default c = sym (read_stop _ c.args.braced _ c.bytes.quoting c.args.word.now c.bytes.byte-index 0 (search rules) (sym c.in_default.ensures) c.bytes.invariant)

pub bytes-preserved : goal.bytes-preserved
bytes-preserved c = read_more _ c.args.braced _ _ c.bytes.quoting c.in-Some.next c.in-Some.is_added c.args.word.now c.bytes.byte-index 0 (search rules) (sym c.in-Some.ensures) c.in_ok-push_if.ensures c.bytes.invariant

pub returns : goal.returns
returns c = c.value_at_end.ensures ∙ sym (read_end _ c.args.braced _ c.bytes.quoting c.args.word.now c.bytes.byte-index (search rules) c.bytes.invariant)
