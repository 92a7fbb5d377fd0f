-- Texts separated by commas outside parentheses.
use Rattle.std.specs.Prelude.{◌≡◌, ℕ, ◌+◌, ◌-◌, ◌<◌, Bool, ◌&&◌, ◌==◌, nat_lt, if◌then◌else◌, List, [], ◌∷◌, ◌++◌, length, take, filter, fold, map, slice_index}
use Rattle.std.specs.List.{onto_first}
use Rattle.text_cut.specs.Cuts.{trimmed}

-- ---- parts

-- How many parentheses are open after one more byte. A closing one where none is open is ignored. (own)
abbrev pub depth_after : ℕ → ℕ → ℕ
depth_after depth b = if b == 40 then depth + 1 else if b == 41 then depth - 1 else depth

-- How many parentheses are open after a text. (own)
abbrev pub depth_of : List ℕ → ℕ
depth_of text = fold depth_after 0 text

-- Each comma of the text is inside parentheses. (own)
abbrev pub HasNoFreeComma : List ℕ → Type 0
HasNoFreeComma text = (i : ℕ) → i < length text → slice_index text i ≡ 44 → 0 < depth_of (take i text)

-- The parts of a text before, between and after its commas outside parentheses. Parentheses that are never closed hold the
-- rest of the text. (own)
pub data AreParts : List ℕ → List (List ℕ) → Type 0 where
  last : {text : List ℕ} → HasNoFreeComma text → AreParts text (text ∷ [])
  more : (part rest : List ℕ) {parts : List (List ℕ)} → HasNoFreeComma part → depth_of part ≡ 0 → AreParts rest parts → AreParts (part ++ 44 ∷ rest) (part ∷ parts)

-- ---- as functions

-- A comma where no parenthesis is open. (own)
abbrev pub is_free_comma : ℕ → ℕ → Bool
is_free_comma depth b = (depth == 0) && (b == 44)

-- The parts of a text, of which the first begins where this many parentheses are open. `onto_first` adds the byte to the front
-- of the first part. (own)
unfoldable pub parts_from : ℕ → List ℕ → List (List ℕ)
parts_from depth [] = [] ∷ []
parts_from depth (b ∷ bs) =
    if is_free_comma depth b then [] ∷ parts_from 0 bs else onto_first b (parts_from (depth_after depth b) bs)

-- The parts of a text between commas outside parentheses. (own)
abbrev pub comma_parts : List ℕ → List (List ℕ)
comma_parts text = parts_from 0 text

-- ---- entries

-- The parts without the blanks at their ends, except those that are then empty. (own)
abbrev pub filled : List (List ℕ) → List (List ℕ)
filled parts = filter (λ entry. nat_lt 0 (length entry)) (map trimmed parts)

-- The entries of a text between commas outside parentheses. (own)
abbrev pub comma_entries : List ℕ → List (List ℕ)
comma_entries text = filled (comma_parts text)
