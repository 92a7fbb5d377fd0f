use Rattle.std.proofs.Common.{drop, ap, sym, ◌∙◌}
use Rattle.ac_statement.specs.Inside.{closes_at_end}
use Rattle.port_idioms.proofs.Runs.{closes_stop}
use Rattle.port_idioms.proofs.asked.closes_at_end.Goals as goal

pub returns-then-depth-eq0 : goal.returns-then-depth-eq0
returns-then-depth-eq0 c =
    sym (closes_stop c.loop-byte.byte-index c.args.text.now c.loop-byte-test.true)
    ∙ ap (λ d. closes_at_end d (drop c.loop-byte.byte-index c.args.text.now)) (sym c.if-depth-eq0.true) ∙ c.loop-byte.invariant.1
