use Rattle.std.proofs.Common.{◌≡◌, length, option_map, sym, ap, ◌∙◌, arith}
use Rattle.shellword.specs.Element.{negated_if}
use Rattle.shellword.proofs.Elements.{negated_once, loop_bang, loop_command, loop_none, none_left}
use Rattle.shellword.proofs.element.element_of.Goals as goal

pub loop-word-init : goal.loop-word-init
loop-word-init c = negated_once c.args.words.items

pub returns-else-is : goal.returns-else-is
returns-else-is c =
    c.negated_if.ensures ∙ ap (option_map (negated_if c.loop-word.negated)) c.command_of.ensures
    ∙ loop_command c.loop-word.negated c.loop-word.words.items c.in-Some.word c.pop_front.new.self.items _ c.in-Some.ensures.items c.loop-word.invariant (sym c.if-is.ensures)

pub loop-word-preserved : goal.loop-word-preserved
loop-word-preserved c = loop_bang c.loop-word.negated c.loop-word.words.items c.in-Some.word c.pop_front.new.self.items _ c.in-Some.ensures.items c.loop-word.invariant (sym c.if-is.ensures)

pub returns : goal.returns
returns c =
    let none : length c.loop-word.words.items ≡ 0 = omega (arith, c.in_default.ensures.cases.0, c.loop-word.words.ok) in
    loop_none c.loop-word.negated c.loop-word.words.items _ (none_left c.loop-word.words.items none) c.loop-word.invariant
