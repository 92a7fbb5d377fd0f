-- A template with the keys of a table filled in (Autoconf's manual, "Setting Output Variables"; that a value isn't read
-- again is own). A table is the list of its entries, a key and a value each.
use Rattle.std.specs.Prelude.{◌≡◌, ℕ, zero, suc, ◌==◌, List, [], ◌∷◌, ◌++◌, Option, Some, None, length, option_map, option_and_then, if◌then◌else◌}
use Rattle.std.specs.Option.{option_map_or}
use Rattle.deftable.specs.Table.{value_of}

-- The byte `@`. (Autoconf's manual, "Setting Output Variables")
abbrev pub at_sign : ℕ
at_sign = 64

-- The text begins with a key between two `@`. (Autoconf's manual, "Setting Output Variables")
pub record BeginsWithKey (es : List (List ℕ × List ℕ)) (text : List ℕ) : Type 0 where
  pub key : List ℕ
  pub value : List ℕ
  pub rest : List ℕ
  pub is_key : value_of es key ≡ Some value
  pub front : text ≡ at_sign ∷ (key ++ at_sign ∷ rest)

-- The second text is the first one filled. The empty text remains empty. If the text begins with a key between two `@`,
-- they are replaced by the key's value, and the rest is filled. Otherwise the first byte is copied, and the rest is
-- filled. (Autoconf's manual, "Setting Output Variables")
pub data Fills (es : List (List ℕ × List ℕ)) : List ℕ → List ℕ → Type 0 where
  nothing : Fills es [] []
  key : (k v : List ℕ) {rest made : List ℕ} → value_of es k ≡ Some v → Fills es rest made → Fills es (at_sign ∷ (k ++ at_sign ∷ rest)) (v ++ made)
  byte : {b : ℕ} {rest made : List ℕ} → ¬ BeginsWithKey es (b ∷ rest) → Fills es rest made → Fills es (b ∷ rest) (b ∷ made)

-- ---- the same as a function

-- The bytes before the first `@`, if there is one. (own)
unfoldable pub before_at : List ℕ → Option (List ℕ)
before_at [] = None
before_at (b ∷ bs) = if b == at_sign then Some [] else option_map (λ k. b ∷ k) (before_at bs)

-- A key with its value, if the name is a key. (own)
abbrev pub entry_of : List (List ℕ × List ℕ) → List ℕ → Option (List ℕ × List ℕ)
entry_of es k = option_map (λ v. (k, v)) (value_of es k)

-- The key between two `@` at the front of the text, with its value, if there is one. (own)
unfoldable pub key_at_front : List (List ℕ × List ℕ) → List ℕ → Option (List ℕ × List ℕ)
key_at_front es [] = None
key_at_front es (b ∷ bs) = if b == at_sign then option_and_then (entry_of es) (before_at bs) else None

-- The filled text after the first n bytes, which belong to a key that is already replaced. (own)
unfoldable pub filled_after : List (List ℕ × List ℕ) → ℕ → List ℕ → List ℕ
filled_after es n [] = []
filled_after es (suc n) (b ∷ bs) = filled_after es n bs
filled_after es zero (b ∷ bs) =
    option_map_or (λ p. p.1 ++ filled_after es (suc (length p.0)) bs) (key_at_front es (b ∷ bs)) (b ∷ filled_after es 0 bs)

-- The filled text. (own)
abbrev pub filled : List (List ℕ × List ℕ) → List ℕ → List ℕ
filled es text = filled_after es 0 text
