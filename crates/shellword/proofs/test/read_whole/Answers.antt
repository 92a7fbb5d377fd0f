use Rattle.std.proofs.lemmas.Result.{err_from_is_err_and}
use Rattle.shellword.proofs.TestFaults.{cut-fault, joined-faults}
use Rattle.shellword.proofs.test.read_whole.Goals as goal

pub returns-in_err-tokens-clause-fault : goal.returns-in_err-tokens-clause-fault
returns-in_err-tokens-clause-fault c =
    let p = err_from_is_err_and c.from_residual.result c.from_residual.ensures.1 in
    rw (p.1, p.2) (cut-fault c.args.text.now _ c.in_err-tokens.ensures.fault c.in_err-tokens.ensures.value)

pub returns-clause-fault : goal.returns-clause-fault
returns-clause-fault c = joined-faults c.args.text.now c.in_ok-tokens.tokens.items (λ t. t) c.join_tokens.result c.in_ok-tokens.ensures.value c.join_tokens.ensures.value
