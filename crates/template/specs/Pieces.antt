-- A template that is filled in pieces.
use Rattle.std.specs.Prelude.{◌≡◌, ℕ, ◌==◌, nat_eq, ◌&&◌, ◌||◌, Bool, true, false, List, [], ◌∷◌, ◌++◌, ◌⊎◌, Some, take, drop}
use Rattle.std.specs.List.{starts_with}
use Rattle.deftable.specs.Table.{value_of}
use Rattle.template.specs.Fill.{at_sign, filled}

-- What a filler has: the entries of its table, and what it holds of the text so far. (own)
pub record FillerState : Type 0 where
  pub entries : List (List ℕ × List ℕ)
  pub held : List ℕ

-- An `@` and the front of a key. (own)
pub record OpensKey (es : List (List ℕ × List ℕ)) (held : List ℕ) : Type 0 where
  pub front : List ℕ
  pub rest : List ℕ
  pub value : List ℕ
  pub opens : held ≡ at_sign ∷ front
  pub is_key : value_of es (front ++ rest) ≡ Some value

-- What may be held: nothing, or an `@` and the front of a key. (own)
abbrev pub MayBeHeld : List (List ℕ × List ℕ) → List ℕ → Type 0
MayBeHeld es held = (held ≡ []) ⊎ OpensKey es held

-- One piece is fed. What was held and the piece are together a front and what is held later. What is given is the front filled,
-- and it is also what the text gives up to there, whatever follows. The front is empty, or contains all that was held. (own)
pub record Feeds (es : List (List ℕ × List ℕ)) (held piece given later : List ℕ) : Type 0 where
  pub front : List ℕ
  pub parted : held ++ piece ≡ front ++ later
  pub is_given : given ≡ filled es front
  pub goes_on : (rest : List ℕ) → filled es ((held ++ piece) ++ rest) ≡ given ++ filled es (later ++ rest)
  pub past : (front ≡ []) ⊎ ((more : List ℕ) × (front ≡ held ++ more))

-- All pieces so far are together the text. What is given for them is the text filled without what is held, and it is also what
-- the text gives up to there, whatever follows. (own)
pub record Fed (es : List (List ℕ × List ℕ)) (text given held : List ℕ) : Type 0 where
  pub front : List ℕ
  pub parted : text ≡ front ++ held
  pub is_given : given ≡ filled es front
  pub goes_on : (rest : List ℕ) → filled es (text ++ rest) ≡ given ++ filled es (held ++ rest)

-- The pieces are fed in turn to a filler that holds the first text, and it holds the last one then. The second list has what is
-- given for each. (own)
pub data FeedsAll (es : List (List ℕ × List ℕ)) : List ℕ → List (List ℕ) → List (List ℕ) → List ℕ → Type 0 where
  no_piece : {held : List ℕ} → FeedsAll es held [] [] held
  one_piece : {held piece given later last : List ℕ} {pieces givens : List (List ℕ)} → Feeds es held piece given later → FeedsAll es later pieces givens last
      → FeedsAll es held (piece ∷ pieces) (given ∷ givens) last

-- ---- the same as a function

-- Whether the text is the front of a key. (own)
abbrev pub begins_key : List (List ℕ × List ℕ) → List ℕ → Bool
begins_key [] text = false
begins_key (e ∷ es) text = starts_with nat_eq e.0 text || begins_key es text

-- Whether the text may be held. (own)
abbrev pub may_be_held : List (List ℕ × List ℕ) → List ℕ → Bool
may_be_held es [] = true
may_be_held es (b ∷ bs) = b == at_sign && begins_key es bs

-- The text is cut. What is given is what is before the cut, filled, and it is also what the text gives up to there, whatever
-- follows. The text after the cut may be held. (own)
pub record IsParted (es : List (List ℕ × List ℕ)) (text given later : List ℕ) : Type 0 where
  pub at : ℕ
  pub is_given : given ≡ filled es (take at text)
  pub is_later : later ≡ drop at text
  pub goes_on : (rest : List ℕ) → filled es (text ++ rest) ≡ given ++ filled es (later ++ rest)
  pub may : may_be_held es later ≡ true
