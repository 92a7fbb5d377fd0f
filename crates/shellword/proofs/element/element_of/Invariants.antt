use Rattle.std.proofs.Common.{◌≡◌, length, option_map}
use Rattle.shellword.specs.Element.{negated_if, element_of}
use Rattle.shellword.proofs.element.element_of.Given as goal

abbrev pub invariant-loop-word : goal.invariant-loop-word
invariant-loop-word l = option_map (negated_if l.negated) (element_of l.words.items) ≡ element_of l.fn.words.items

abbrev pub decreases-loop-word : goal.decreases-loop-word
decreases-loop-word l = length l.words.items
