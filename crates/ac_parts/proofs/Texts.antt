-- The leaves of a tree are its text.
use Rattle.std.proofs.Common.{◌≡◌, ℕ, ◌+◌, ◌-◌, ◌<◌, ◌≤◌, true, false, cond, List, [], ◌∷◌, ◌++◌, length, take, drop, sym, ap, ◌∙◌, arith}
use Rattle.std.specs.Prelude.{slice_range}
use Rattle.std.proofs.Math.Seq.{take-add}
use Rattle.std.proofs.lemmas.List.{drop-drop, take_all}
use Rattle.std.proofs.lemmas.List.Concat.{flat_map-append}
use Rattle.ac_parts.specs.declared.kind.Kind.{Kind}
use Rattle.ac_parts.specs.declared.kind.Part.{Part}
use Rattle.ac_parts.specs.Shapes.{is_leaf}
use Rattle.ac_parts.specs.Trees.{AreWithin, none, leaf, tree, IsTree, leaf_text, text_of}

joined : (text : List ℕ) (a b c : ℕ) → a ≤ b → b ≤ c → slice_range text a b ++ slice_range text b c ≡ slice_range text a c
joined text a b c ab bc =
    let k : b ≡ a + (b - a) = omega (arith, ab) in
    let n : b - a + (c - b) ≡ c - a = omega (arith, ab, bc) in
    ap (λ t. take (b - a) (drop a text) ++ take (c - b) t) (ap (λ i. drop i text) k ∙ sym (drop-drop (b - a) a text))
    ∙ sym (take-add (b - a) (c - b) (drop a text))
    ∙ ap (λ m. take m (drop a text)) n

record Spelled (text : List ℕ) (at : ℕ) (parts : List Part) (end : ℕ) : Type 0 where
  order : at ≤ end
  same : text_of text parts ≡ slice_range text at end

empty : (text : List ℕ) (at : ℕ) → [] ≡ slice_range text at at
empty text at = let n : 0 ≡ at - at = omega arith in ap (λ m. take m (drop at text)) n

spelled_leaf : (text : List ℕ) (part : Part) (rest : List Part) (end : ℕ) → is_leaf part.kind ≡ true → part.start < part.end → Spelled text part.end rest end → Spelled text part.start (part ∷ rest) end
spelled_leaf text part rest end is order r = record {
  order = omega (arith, order, r.order);
  same = ap (λ b. cond b (slice_range text part.start part.end) [] ++ text_of text rest) is ∙ ap (λ t. slice_range text part.start part.end ++ t) r.same
      ∙ joined text part.start part.end end (omega (arith, order)) r.order;
}

spelled_tree : (text : List ℕ) (part : Part) (inner rest : List Part) (end : ℕ) → is_leaf part.kind ≡ false → Spelled text part.start inner part.end → Spelled text part.end rest end → Spelled text part.start (part ∷ (inner ++ rest)) end
spelled_tree text part inner rest end is i r = record {
  order = omega (arith, i.order, r.order);
  same = ap (λ b. cond b (slice_range text part.start part.end) [] ++ text_of text (inner ++ rest)) is ∙ flat_map-append (leaf_text text) inner rest
      ∙ ap (λ t. t ++ text_of text rest) i.same ∙ ap (λ t. slice_range text part.start part.end ++ t) r.same
      ∙ joined text part.start part.end end i.order r.order;
}

spelled : {text : List ℕ} {kind : Kind} {state at end : ℕ} {parts : List Part} → AreWithin text kind state at parts end → Spelled text at parts end
spelled {text} (none {at} e) = record { order = omega arith; same = empty text at }
spelled {text} (leaf {end} {part} {rest} is count order inside good e w) = spelled_leaf text part rest end is order (spelled w)
spelled {text} (tree {end} {part} {inner} {rest} is count v e w) = spelled_tree text part inner rest end is (spelled v) (spelled w)

pub tree_text : (text : List ℕ) (parts : List Part) → IsTree text parts → text_of text parts ≡ text
tree_text text parts is = (spelled is).same ∙ take_all (length text - 0) text (omega arith)
