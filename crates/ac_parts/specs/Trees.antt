-- Which lists of parts are a tree of a text.
use Rattle.std.specs.Prelude.{◌≡◌, ℕ, ◌<◌, ◌≤◌, true, false, List, [], ◌∷◌, ◌++◌, length, slice_range, Some, if◌then◌else◌}
use Rattle.std.specs.List.{flat_map}
use Rattle.ac_parts.specs.declared.kind.Kind.{Kind}
use Rattle.ac_parts.specs.declared.kind.Kind.TheVariants as kinds
use Rattle.ac_parts.specs.declared.kind.Part.{Part}
use Rattle.ac_parts.specs.Leaves.{is_leaf_text}
use Rattle.ac_parts.specs.Shapes.{is_leaf, next_state, may_end}

-- The parts, one after the other, are all of the text between two offsets, and all that is within a part of a kind after which its next
-- part is in a state. Each has the shape of its kind. A leaf has nothing within it, and a text that its kind may have. (own)
pub data AreWithin (text : List ℕ) : Kind → ℕ → ℕ → List Part → ℕ → Type 0 where
  none : {kind : Kind} {state at : ℕ} → may_end kind state ≡ true → AreWithin text kind state at [] at
  leaf : {kind : Kind} {state next end : ℕ} {part : Part} {rest : List Part}
      → is_leaf part.kind ≡ true → part.within ≡ 0 → part.start < part.end → part.end ≤ length text → is_leaf_text part.kind (slice_range text part.start part.end) ≡ true
      → next_state kind state part.kind ≡ Some next → AreWithin text kind next part.end rest end → AreWithin text kind state part.start (part ∷ rest) end
  tree : {kind : Kind} {state next end : ℕ} {part : Part} {inner rest : List Part}
      → is_leaf part.kind ≡ false → part.within ≡ length inner → AreWithin text part.kind 0 part.start inner part.end
      → next_state kind state part.kind ≡ Some next → AreWithin text kind next part.end rest end → AreWithin text kind state part.start (part ∷ inner ++ rest) end

-- The parts are a tree of the text. (own)
abbrev pub IsTree : List ℕ → List Part → Type 0
IsTree text parts = AreWithin text kinds.Source 0 0 parts (length text)

-- The text of a leaf.
abbrev pub leaf_text : List ℕ → Part → List ℕ
leaf_text text part = if is_leaf part.kind then slice_range text part.start part.end else []

-- The text of the leaves, one after the other.
abbrev pub text_of : List ℕ → List Part → List ℕ
text_of text parts = flat_map (leaf_text text) parts
