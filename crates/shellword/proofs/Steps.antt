-- What the reader's steps find, by the context of a byte: between its functions and the grammar.
use Rattle.std.proofs.Common.{◌≡◌, ℕ, ◌+◌, ◌<◌, true, false, List, [], ◌∷◌, ◌++◌, take, drop, Some, None, option_to_list}
use Rattle.shellword.specs.declared.part.Part.{Part}
use Rattle.shellword.specs.declared.part.Part.TheVariants.{Variable}
use Rattle.shellword.specs.declared.front.Context.{Context}
use Rattle.shellword.specs.declared.front.Context.TheVariants.{Bare, Single, Double}
use Rattle.shellword.specs.declared.front.WordFront.{WordFront}
use Rattle.shellword.specs.Text.{single_quote, double_quote, backslash, dollar, open_brace, close_brace, name_len, stands_alone}
use Rattle.shellword.specs.Contexts.{is_special, escapes, escapes_front, escaped_part, byte_in, is_over, is_quoted}
use Rattle.shellword.specs.Scan.{front}
use Rattle.shellword.specs.WordFaults.{BeginsRefused}

-- A text whose first byte is in this context begins with this front: a part or none, its length, and the context of the
-- next byte.
pub data IsFront : Context → List ℕ → WordFront → Type 0 where
  -- a quote that opens or closes
  single_opens : {rest : List ℕ} → IsFront Bare (single_quote ∷ rest) (front None 1 Single)
  double_opens : {rest : List ℕ} → IsFront Bare (double_quote ∷ rest) (front None 1 Double)
  single_closes : {rest : List ℕ} → IsFront Single (single_quote ∷ rest) (front None 1 Bare)
  double_closes : {rest : List ℕ} → IsFront Double (double_quote ∷ rest) (front None 1 Bare)
  -- a backslash that makes the next byte ordinary, and one that stays
  escaped : {c : Context} {b : ℕ} {rest : List ℕ} → escapes c b ≡ true → IsFront c (backslash ∷ b ∷ rest) (front (escaped_part c b) 2 c)
  kept : {c : Context} {rest : List ℕ} → is_special c backslash ≡ true → escapes_front c rest ≡ false
      → IsFront c (backslash ∷ rest) (front (Some (byte_in c backslash)) 1 c)
  -- `$name` and `${name}`
  variable : {c : Context} {rest : List ℕ} → is_special c dollar ≡ true → 0 < name_len rest
      → IsFront c (dollar ∷ rest) (front (Some (Variable (take (name_len rest) rest))) (name_len rest + 1) c)
  in_braces : {c : Context} {inside rest : List ℕ} → is_special c dollar ≡ true → 0 < name_len inside → drop (name_len inside) inside ≡ close_brace ∷ rest
      → IsFront c (dollar ∷ open_brace ∷ inside) (front (Some (Variable (take (name_len inside) inside))) (name_len inside + 3) c)
  -- a `$` that is an ordinary byte
  lone_dollar : {c : Context} {rest : List ℕ} → is_special c dollar ≡ true → stands_alone rest ≡ true
      → IsFront c (dollar ∷ rest) (front (Some (byte_in c dollar)) 1 c)
  -- any other byte
  ordinary : {c : Context} {b : ℕ} {rest : List ℕ} → is_special c b ≡ false → IsFront c (b ∷ rest) (front (Some (byte_in c b)) 1 c)

-- The first n bytes of a text in this context are these parts of a word or of a here text, which ends there.
pub data Runs : Context → List ℕ → List Part → ℕ → Type 0 where
  ends : {c : Context} {text : List ℕ} → is_quoted c ≡ false → is_over c text ≡ true → Runs c text [] 0
  goes_on : {c : Context} {text : List ℕ} {f : WordFront} {parts : List Part} {n : ℕ} → is_over c text ≡ false → IsFront c text f
      → Runs f.context (drop f.len text) parts n → Runs c text (option_to_list f.part ++ parts) (f.len + n)

-- A text in this context is rejected before this rest of it.
pub data Breaks : Context → List ℕ → List ℕ → Type 0 where
  at_end : {c : Context} → is_quoted c ≡ true → Breaks c [] []
  refused : {c : Context} {text : List ℕ} → is_special c dollar ≡ true → BeginsRefused text → Breaks c text text
  step : {c : Context} {text rest : List ℕ} {f : WordFront} → is_over c text ≡ false → IsFront c text f → Breaks f.context (drop f.len text) rest → Breaks c text rest
