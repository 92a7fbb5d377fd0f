use Rattle.std.proofs.Common.{◌≡◌, length, sym, ap, ◌∙◌, arith}
use Rattle.std.proofs.lemmas.Result.{err_from_is_err_and}
use Rattle.shellword.specs.Listing.{pieces_or}
use Rattle.shellword.specs.Pieces.{pieces_of}
use Rattle.shellword.proofs.Elements.{none_left}
use Rattle.shellword.proofs.Outcome.{fails_along}
use Rattle.shellword.proofs.PatternLists.{on_nothing, on_no_word, on_failed, on_last, on_no_bar, on_bar}
use Rattle.shellword.proofs.pattern.alternatives_of.Goals as goal

pub returns-in_default : goal.returns-in_default
returns-in_default c =
    let none : length c.alternatives.tokens.items ≡ 0 = omega (arith, c.in_default.ensures.cases.0, c.alternatives.tokens.ok) in
    on_nothing c.alternatives.patterns.items c.alternatives.at c.alternatives.tokens.items _ c.alternatives.invariant (none_left c.alternatives.tokens.items none)

pub returns-in_default-word_in : goal.returns-in_default-word_in
returns-in_default-word_in c =
    on_no_word c.alternatives.patterns.items c.alternatives.at c.alternatives.tokens.items _ c.alternatives.invariant c.in-Some.token c.pop_front.new.self.items c.in-Some.ensures.items (sym c.in_default-word_in.ensures)

pub returns-in_err-pattern : goal.returns-in_err-pattern
returns-in_err-pattern c =
    let p = err_from_is_err_and c.from_residual.result c.from_residual.ensures.1 in
    rw (p.1, p.2) (fails_along _ _ _ (on_failed c.alternatives.patterns.items c.alternatives.at c.alternatives.tokens.items _ c.alternatives.invariant c.in-Some.token c.pop_front.new.self.items c.in-Some.ensures.items c.in-Some-word_in.word (sym c.in-Some-word_in.ensures) _) (rw (sym c.parts.ensures) c.in_err-pattern.ensures))

pub returns-in_default-pop_front : goal.returns-in_default-pop_front
returns-in_default-pop_front c =
    let none : length c.pop_front.new.self.items ≡ 0 = omega (arith, c.in_default-pop_front.ensures.cases.0, c.pop_front.new.self.ok) in
    on_last c.alternatives.patterns.items c.alternatives.at c.alternatives.tokens.items _ c.alternatives.invariant c.in-Some.token c.pop_front.new.self.items c.in-Some.ensures.items c.in-Some-word_in.word (sym c.in-Some-word_in.ensures)
    c.in_ok-pattern.pattern (ap (λ ps. pieces_or c.alternatives.at (pieces_of ps)) (sym c.parts.ensures) ∙ c.in_ok-pattern.ensures) c.push.new.self.items c.in_ok-push.ensures.items (none_left c.pop_front.new.self.items none)

pub returns-in_default-after_bar : goal.returns-in_default-after_bar
returns-in_default-after_bar c =
    on_no_bar c.alternatives.patterns.items c.alternatives.at c.alternatives.tokens.items _ c.alternatives.invariant c.in-Some.token c.pop_front.new.self.items c.in-Some.ensures.items c.in-Some-word_in.word (sym c.in-Some-word_in.ensures)
    c.in_ok-pattern.pattern (ap (λ ps. pieces_or c.alternatives.at (pieces_of ps)) (sym c.parts.ensures) ∙ c.in_ok-pattern.ensures) c.in-Some-pop_front.token c.pop_front-in-alternatives.new.self.items c.in-Some-pop_front.ensures.items (sym c.in_default-after_bar.ensures)

pub alternatives-preserved : goal.alternatives-preserved
alternatives-preserved c =
    on_bar c.alternatives.patterns.items c.alternatives.at c.alternatives.tokens.items _ c.alternatives.invariant c.in-Some.token c.pop_front.new.self.items c.in-Some.ensures.items c.in-Some-word_in.word (sym c.in-Some-word_in.ensures)
    c.in_ok-pattern.pattern (ap (λ ps. pieces_or c.alternatives.at (pieces_of ps)) (sym c.parts.ensures) ∙ c.in_ok-pattern.ensures) c.in-Some-pop_front.token c.pop_front-in-alternatives.new.self.items c.in-Some-pop_front.ensures.items
    c.in-Some-after_bar.after c.push.new.self.items c.in_ok-push.ensures.items (sym c.in-Some-after_bar.ensures)
