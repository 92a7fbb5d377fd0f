use Rattle.std.proofs.Common.{arith}
use Rattle.port_passes.proofs.Steps.{on_ok}
use Rattle.port_exchanges.proofs.Steps.{exchange_step}
use Rattle.port_exchanges.proofs.exchanging.put_exchange.Goals as goal

pub returns : goal.returns
returns c =
    on_ok (exchange_step c.args.idioms c.args.text.now _ _ c.args.start c.args.end _ _ _ c.requires.begun c.requires.exchanged (omega (arith, c.if-start-pass.false)) (omega (arith, c.if-end-start.false)) (omega (arith, c.if-text-end.false)))
    c.write_change.result c.write_change.ensures
