use Rattle.std.proofs.Common.{refl}
use Rattle.ac_calls.specs.Calls.{macro_call_of}
use Rattle.port_passes.specs.Exchanged.{IsExchanged}
use Rattle.port_exchanges.proofs.chains.put_chain.Goals as goal

pub put_exchange-requires-clause-exchanged : goal.put_exchange-requires-clause-exchanged
put_exchange-requires-clause-exchanged c = IsExchanged.chained (macro_call_of c.args.call.now) c.requires.call (refl, refl) c.requires.chain
