-- What m4 has open at the pieces into which `m4quote` cuts a text.
use Rattle.std.specs.Prelude.{◌≡◌, ℕ, zero, suc, ◌+◌, ◌<◌, ◌≤◌, Bool, true, List, [], ◌∷◌, drop}
use Rattle.m4quote.specs.Text.{word_len, line_len}
use Rattle.m4quote.specs.Spelling.{IsFront}
use Rattle.lint_marks.specs.declared.quotes.Quotes.{Quotes}
use Rattle.lint_marks.specs.declared.quotes.QuotePart.{QuotePart}
use Rattle.lint_marks.specs.declared.quotes.QuotePart.TheVariants.{Text, Comment, Dropped}
use Rattle.lint_marks.specs.Quotes.{opened, after}

-- In text at this depth, after a byte of a word or not. (own)
abbrev pub in_text : ℕ → Bool → Quotes
in_text depth named = record { depth = depth; part = Text; is_name = named }

-- Between two pieces, where the text continues with this: no quote is open, and no word goes on. A comment ends before
-- its newline, and anything ends with the text. (own)
pub data IsBetween : Quotes → List ℕ → Type 0 where
  in_open : {named : Bool} {text : List ℕ} → (named ≡ true → word_len text ≡ 0) → IsBetween (in_text 0 named) text
  after_comment : {text : List ℕ} → line_len text ≡ 0 → IsBetween (opened 0 Comment) text
  at_end : {part : QuotePart} → IsBetween (opened 0 part) []

-- In quotes. (own)
abbrev pub IsQuoted : Quotes → Type 0
IsQuoted q = (q.part ≡ Text) × (0 < q.depth)

-- In a comment. (own)
abbrev pub IsComment : Quotes → Type 0
IsComment q = q ≡ opened 0 Comment

-- In a dropped line. (own)
abbrev pub IsDropped : Quotes → Type 0
IsDropped q = q ≡ opened 0 Dropped

-- In text outside quotes. (own)
abbrev pub IsPlain : Quotes → Type 0
IsPlain q = (q.part ≡ Text) × (q.depth ≡ 0)

-- This holds of what is open before each of the next n bytes, and that of what is open after them. (own)
abbrev pub Along : (Quotes → Type 0) → (Quotes → List ℕ → Type 0) → ℕ → Quotes → List ℕ → Type 0
Along Before After zero q text = After q text
Along Before After (suc n) q [] = ⊥
Along Before After (suc n) q (b ∷ bs) = Before q × Along Before After n (after q (b ∷ bs)) bs

-- A piece of n bytes is read: this holds within it, after at least one byte, and after it the next piece may begin. (own)
abbrev pub ReadsPiece : (Quotes → Type 0) → ℕ → Quotes → List ℕ → Type 0
ReadsPiece Within zero q text = ⊥
ReadsPiece Within (suc n) q [] = ⊥
ReadsPiece Within (suc n) q (b ∷ bs) = Along Within IsBetween n (after q (b ∷ bs)) bs

-- The text begins with a piece of n bytes. (own)
abbrev pub IsPiece : ℕ → List ℕ → ℕ → Type 0
IsPiece room text n = (kind : _) × IsFront room text kind n

-- The first n bytes of a text are pieces. (own)
pub data ArePieces : ℕ → List ℕ → ℕ → Type 0 where
  no_more : {room : ℕ} {text : List ℕ} → ArePieces room text 0
  one_more : {room k n : ℕ} {text : List ℕ} → IsPiece room text k → ArePieces room (drop k text) n → ArePieces room text (k + n)

-- At least this many quotes are open. (own)
abbrev pub IsAsDeep : ℕ → Quotes → Type 0
IsAsDeep depth q = (q.part ≡ Text) × (depth ≤ q.depth)

-- Exactly this many quotes are open. (own)
abbrev pub IsBack : ℕ → Quotes → List ℕ → Type 0
IsBack depth q text = (q.part ≡ Text) × (q.depth ≡ depth)
