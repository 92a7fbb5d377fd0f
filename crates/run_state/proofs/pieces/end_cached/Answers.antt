use Rattle.std.proofs.Common.{◌≡◌, ◌++◌, subst, OnOk, codes}
use Rattle.meaning.specs.Tests.{with_result}
use Rattle.run_state.proofs.pieces.end_cached.Goals as goal

pub returns : goal.returns
returns c = subst (λ t. OnOk c.end_known_check.result (c.end_known_check.new.store ≡ with_result (codes "(cached) " ++ t) c.args.store.now)) c.text_or_no.ensures c.end_known_check.ensures
