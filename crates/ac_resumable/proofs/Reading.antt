-- What texts and tests read, as their parts and elements.
use Rattle.std.proofs.Common.{◌≡◌, ℕ, List, [], ◌∷◌, Bool, true, false, refl, ap, ◌∙◌}
use Rattle.std.specs.Prelude.{◌&&◌}
use Rattle.std.specs.List.{list_all}
use Rattle.shellword.specs.declared.element.Element.{Element}
use Rattle.shellword.specs.declared.part.Part.{Part}
use Rattle.shellword.specs.declared.part.Part.TheVariants.{Plain, Quoted, Variable}
use Rattle.shellword.specs.declared.token.Joint.{Joint}
use Rattle.shellword.specs.Nested.{nested}
use Rattle.shellword.specs.Truth.{Joined, joined}
use Rattle.ac_tree.specs.Decide.{may_read, reads_text, reads_condition, reads_test}
use Rattle.ac_resumable.specs.Tested.{reads_part}

pub text_parts : (tested : List (List ℕ)) (text : List Part) → reads_text tested text ≡ list_all (reads_part tested) text
text_parts tested [] = refl
text_parts tested (Plain b ∷ more) = text_parts tested more
text_parts tested (Quoted b ∷ more) = text_parts tested more
text_parts tested (Variable name ∷ more) = ap (λ b. may_read tested name && b) (text_parts tested more)

and_assoc : (a b c : Bool) → (a && b) && c ≡ a && (b && c)
and_assoc true b c = refl
and_assoc false b c = refl

and_true : (a : Bool) → a ≡ a && true
and_true true = refl
and_true false = refl

pub test_elements : (tested : List (List ℕ)) (test : Joined) (rest : List (Joint × Element))
    → reads_test tested (nested test rest) ≡ reads_test tested test && list_all (λ next. reads_condition tested next.1.condition) rest
test_elements tested test [] = and_true (reads_test tested test)
test_elements tested test (next ∷ rest) =
    test_elements tested (joined test next.0 next.1) rest
    ∙ and_assoc (reads_test tested test) (reads_condition tested next.1.condition) (list_all (λ next. reads_condition tested next.1.condition) rest)
