use Rattle.std.proofs.Common.{◌≡◌, ◌<◌, length, sym, arith}
use Rattle.std.proofs.lemmas.Result.{err_from_is_err_and}
use Rattle.std.proofs.lemmas.Bool.{eqb-true, eqb-false}
use Rattle.shellword.specs.Gives.{Fails}
use Rattle.shellword.proofs.Elements.{none_left}
use Rattle.shellword.proofs.Outcome.{fails_along}
use Rattle.fallible.proofs.Clauses.{given_by}
use Rattle.shellword.proofs.Joining.{on_word, on_join_failed, on_join, on_bar, on_newline, on_line_end, at_end}
use Rattle.shellword.proofs.test.join_all.Goals as goal

pub loop-token-preserved-in-Continue-1 : goal.loop-token-preserved-in-Continue-1
loop-token-preserved-in-Continue-1 c =
    on_word c.loop-token.before c.loop-token.words.items c.loop-token.at c.loop-token.tokens.items c.pop_front.new.self.items c.in-Some.token _ c.in-Some.ensures.items c.loop-token.invariant c.in-Word.word c.push_back.new.self.items c.in-Word.is c.in_ok-push_back-in-Word.ensures.items

pub returns-in_err-test-in-Join : goal.returns-in_err-test-in-Join
returns-in_err-test-in-Join c =
    let p = err_from_is_err_and c.from_residual-in_err-test-in-Join.result c.from_residual-in_err-test-in-Join.ensures.1 in
    record {
      value = rw (p.1, p.2) (fails_along _ _ _ (on_join_failed c.loop-token.before c.loop-token.words.items c.loop-token.at c.loop-token.tokens.items c.pop_front.new.self.items c.in-Some.token _ c.in-Some.ensures.items c.loop-token.invariant c.in-Join.joint c.in-Join.after _ c.in-Join.is) c.in_err-test-in-Join.ensures.value);
    }

pub loop-token-preserved-in-Join : goal.loop-token-preserved-in-Join
loop-token-preserved-in-Join c =
    on_join c.loop-token.before c.loop-token.words.items c.loop-token.at c.loop-token.tokens.items c.pop_front.new.self.items c.in-Some.token _ c.in-Some.ensures.items c.loop-token.invariant c.in-Join.joint c.in-Join.after c.in_ok-test-in-Join.test c.end_element.new.words.items c.in-Join.is c.in_ok-test-in-Join.ensures.value c.in_ok-test-in-Join.ensures.taken

pub returns-in-Bar : goal.returns-in-Bar
returns-in-Bar c = record {
  value = on_bar c.loop-token.before c.loop-token.words.items c.loop-token.at c.loop-token.tokens.items c.pop_front.new.self.items c.in-Some.token _ c.in-Some.ensures.items c.loop-token.invariant c.in-Bar.field-0 c.in-Bar.is;
}

pub loop-token-preserved : goal.loop-token-preserved
loop-token-preserved c =
    let n = eqb-true _ 0 (sym c.if-is_empty.ensures) in
    let none : length c.loop-token.words.items ≡ 0 = omega (arith, n, c.loop-token.words.ok) in
    on_newline c.loop-token.before c.loop-token.words.items c.loop-token.at c.loop-token.tokens.items c.pop_front.new.self.items c.in-Some.token _ c.in-Some.ensures.items c.loop-token.invariant c.in-Newline.is (none_left c.loop-token.words.items none)

pub returns-in-Newline-2 : goal.returns-in-Newline-2
returns-in-Newline-2 c =
    let n = eqb-false _ 0 (sym c.if-is_empty.ensures) in
    let some : 0 < length c.loop-token.words.items = omega (arith, n, c.loop-token.words.ok) in
    record {
      value = given_by Fails (λ t. t) c.end_line.result _ _ (on_line_end c.loop-token.before c.loop-token.words.items c.loop-token.at c.loop-token.tokens.items c.pop_front.new.self.items c.in-Some.token _ c.in-Some.ensures.items c.loop-token.invariant c.in-Newline-2.is some) c.end_line.ensures.value;
    }

pub returns : goal.returns
returns c =
    let none : length c.loop-token.tokens.items ≡ 0 = omega (arith, c.in_default.ensures.cases.0, c.loop-token.tokens.ok) in
    record { value = given_by Fails (λ t. t) c.end_element-2.result _ _ (at_end c.loop-token.before c.loop-token.words.items c.loop-token.at c.loop-token.tokens.items _ (none_left c.loop-token.tokens.items none) c.loop-token.invariant) c.end_element-2.ensures.value }
