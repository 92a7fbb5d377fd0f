-- A test as the code stores it: the first element, and each later one with the joint before it. All is own.
use Rattle.std.specs.Prelude.{◌≡◌, List, [], ◌∷◌, ◌++◌, refl}
use Rattle.std.proofs.Common.{ap, ◌∙◌}
use Rattle.shellword.specs.declared.element.Element.{Element}
use Rattle.shellword.specs.declared.token.Joint.{Joint}
use Rattle.shellword.specs.Truth.{Joined, single, joined}

-- A test joined with these elements, each with the joint before it.
abbrev pub nested : Joined → List (Joint × Element) → Joined
nested test [] = test
nested test (next ∷ rest) = nested (joined test next.0 next.1) rest

-- An element more at the end of the list is joined last.
pub nested_push : (test : Joined) (rest : List (Joint × Element)) (next : Joint × Element) → nested test (rest ++ next ∷ []) ≡ joined (nested test rest) next.0 next.1
nested_push test [] next = refl
nested_push test (one ∷ rest) next = nested_push (joined test one.0 one.1) rest next

-- The first element of a test, and the later ones.
abbrev pub flat : Joined → Element × List (Joint × Element)
flat (single e) = (e, [])
flat (joined test joint e) = ((flat test).0, (flat test).1 ++ (joint, e) ∷ [])

-- The test of a first element and later ones.
abbrev pub nested_pair : Element × List (Joint × Element) → Joined
nested_pair p = nested (single p.0) p.1

-- The elements of a test form the test again.
pub nested_pair-flat : (test : Joined) → nested_pair (flat test) ≡ test
nested_pair-flat (single e) = refl
nested_pair-flat (joined test joint e) = nested_push (single (flat test).0) (flat test).1 (joint, e) ∙ ap (λ (t : Joined). joined t joint e) (nested_pair-flat test)
