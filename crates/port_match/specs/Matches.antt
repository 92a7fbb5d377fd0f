-- Which parts match a pattern.
use Rattle.std.specs.Prelude.{◌≡◌, ℕ, ◌==◌, ◌&&◌, Bool, true, false, List, [], ◌∷◌, ◌++◌, length, bytes_eq, leb, slice_range, Option, Some, None}
use Rattle.std.specs.List.{list_all}
use Rattle.ac_parts.specs.declared.kind.Kind.{Kind}
use Rattle.ac_parts.specs.declared.kind.Kind.TheVariants as kinds
use Rattle.ac_parts.specs.declared.kind.Part.{Part}
use Rattle.ac_parts.specs.Shapes.{is_kind}
use Rattle.port_match.specs.declared.pattern.Pat.{Pat}
use Rattle.port_match.specs.declared.pattern.Pat.TheVariants.{Open, Close, One, Named, Many, Gaps}
use Rattle.port_match.specs.declared.pattern.Piece.{Piece}
use Rattle.port_match.specs.declared.pattern.Bound.{Bound}

-- Parts of the kind are blanks, a newline or a `;`.
abbrev pub is_gap_kind : Kind → Bool
is_gap_kind kinds.Blank = true
is_gap_kind kinds.Newline = true
is_gap_kind kinds.Gap = true
is_gap_kind kinds.Semicolon = true
is_gap_kind _ = false

-- The part is blanks, a newline or a `;`.
unfoldable pub is_gap : Part → Bool
is_gap part = part.within == 0 && is_gap_kind part.kind

-- The part is a leaf with this text.
unfoldable pub is_named : List ℕ → List ℕ → Part → Bool
is_named text word part = part.within == 0 && leb part.start part.end && leb part.end (length text) && bytes_eq (slice_range text part.start part.end) word

-- The text of the leaf that a pattern wants here.
abbrev pub word_of : Pat → Option (List ℕ)
word_of (Named word) = Some word.now
word_of (One kind slot) = None
word_of (Open kind) = None
word_of Close = None
word_of (Many pieces) = None
word_of Gaps = None

-- The pieces that a pattern wants here again and again.
abbrev pub pieces_of : Pat → Option (List Piece)
pieces_of (Many pieces) = Some pieces.now
pieces_of (Named word) = None
pieces_of (One kind slot) = None
pieces_of (Open kind) = None
pieces_of Close = None
pieces_of Gaps = None

-- The parts are these pieces, one after the other, and the slots have them. (own)
pub data ArePieces : List Piece → List Part → List Bound → Type 0 where
  no_piece : ArePieces [] [] []
  piece : {it : Piece} {pieces : List Piece} {part : Part} {rest : List Part} {bounds : List Bound} (inner : List Part)
      → is_kind part.kind it.0 ≡ true → part.within ≡ length inner → ArePieces pieces rest bounds
      → ArePieces (it ∷ pieces) (part ∷ (inner ++ rest)) (record { slot = it.1; part = part } ∷ bounds)

-- The parts are these pieces again and again. (own)
pub data AreRounds : List Piece → List Part → List Bound → Type 0 where
  no_round : {pieces : List Piece} → AreRounds pieces [] []
  round : {pieces : List Piece} {front rest : List Part} {bounds more : List Bound}
      → ArePieces pieces front bounds → AreRounds pieces rest more → AreRounds pieces (front ++ rest) (bounds ++ more)

-- The parts match a pattern, and the slots have these. Each part is matched with all that is within it. (own)
pub data IsMatch (text : List ℕ) : List Pat → List Part → List Bound → Type 0 where
  nothing : IsMatch text [] [] []
  one : {kind : Kind} {slot : ℕ} {pats : List Pat} {part : Part} {rest : List Part} {bounds : List Bound} (inner : List Part)
      → is_kind part.kind kind ≡ true → part.within ≡ length inner → IsMatch text pats rest bounds
      → IsMatch text (One kind slot ∷ pats) (part ∷ (inner ++ rest)) (record { slot = slot; part = part } ∷ bounds)
  within : {kind : Kind} {pats after : List Pat} {part : Part} {inner rest : List Part} {bounds more : List Bound}
      → is_kind part.kind kind ≡ true → part.within ≡ length inner → IsMatch text pats inner bounds → IsMatch text after rest more
      → IsMatch text (Open kind ∷ (pats ++ (Close ∷ after))) (part ∷ (inner ++ rest)) (bounds ++ more)
  named : {pat : Pat} {word : List ℕ} {pats : List Pat} {part : Part} {rest : List Part} {bounds : List Bound}
      → word_of pat ≡ Some word → is_named text word part ≡ true → IsMatch text pats rest bounds → IsMatch text (pat ∷ pats) (part ∷ rest) bounds
  gaps : {pats : List Pat} {rest : List Part} {bounds : List Bound} (front : List Part)
      → list_all is_gap front ≡ true → IsMatch text pats rest bounds → IsMatch text (Gaps ∷ pats) (front ++ rest) bounds
  many : {pat : Pat} {pieces : List Piece} {pats : List Pat} {front rest : List Part} {bounds more : List Bound}
      → pieces_of pat ≡ Some pieces → AreRounds pieces front bounds → IsMatch text pats rest more → IsMatch text (pat ∷ pats) (front ++ rest) (bounds ++ more)
