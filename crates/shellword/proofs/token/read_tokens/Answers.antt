use Rattle.std.proofs.Common.{rules, sym}
use Rattle.std.proofs.lemmas.Result.{err_from_is_err_and}
use Rattle.shellword.proofs.Outcome.{fails_along}
use Rattle.shellword.proofs.Tokens.{loop_space, loop_failed, loop_token, loop_ended}
use Rattle.shellword.proofs.token.read_tokens.Goals as goal

pub loop-at-preserved-then-is_space : goal.loop-at-preserved-then-is_space
loop-at-preserved-then-is_space c = record {
  within = search rules;
  goes_on = loop_space c.args.lone_bars c.loop-at.tokens.items c.loop-at.at c.args.text.now _ c.loop-at.invariant.goes_on c.loop-at-test.true (sym c.if-is_space.ensures);
}

pub returns-in_err-token-clause-value : goal.returns-in_err-token-clause-value
returns-in_err-token-clause-value c =
    let p = err_from_is_err_and c.from_residual.result c.from_residual.ensures.1 in
    rw (p.1, p.2) (fails_along _ _ _ (loop_failed c.args.lone_bars c.loop-at.tokens.items c.loop-at.at c.args.text.now _ c.loop-at.invariant.goes_on c.loop-at-test.true _ (sym c.if-is_space.ensures)) c.in_err-token.ensures.value)

pub loop-at-preserved : goal.loop-at-preserved
loop-at-preserved c = record {
  within = c.in_ok-token.ensures.within.1;
  goes_on = loop_token c.args.lone_bars c.loop-at.tokens.items c.loop-at.at c.args.text.now _ c.loop-at.invariant.goes_on c.loop-at-test.true (c.in_ok-token.token, c.in_ok-token.after) c.push_back.new.self.items
      (sym c.if-is_space.ensures) c.in_ok-token.ensures.value c.in_ok-token.ensures.within.0 c.in_ok-token.ensures.within.1 c.in_ok-push_back.ensures.items;
}

pub returns-clause-value : goal.returns-clause-value
returns-clause-value c = loop_ended c.args.lone_bars c.loop-at.tokens.items c.loop-at.at c.args.text.now _ c.loop-at.invariant.goes_on c.loop-at-test.false
