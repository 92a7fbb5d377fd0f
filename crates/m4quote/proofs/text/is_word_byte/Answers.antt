use Rattle.std.proofs.Common.{◌≡◌, ℕ, ◌==◌, ◌<◌, Bool, true, false, map, cond, get_or, refl, ap, ◌∙◌, arith}
use Rattle.std.proofs.lemmas.List.FromFn.{get_or-map-range_with_len}
use Rattle.std.specs.List.{range_with_len}
use Rattle.m4quote.specs.Text.{is_word_byte}
use Rattle.m4quote.specs.declared.text.TheConstants.{WORD_BYTES}
use Rattle.m4quote.proofs.text.is_word_byte.Goals as goal

abbrev digit : ℕ → ℕ
digit b = cond (is_word_byte b) 49 48

-- The table has the digit of each byte.
table_is : WORD_BYTES ≡ map digit (range_with_len 0 256)
table_is = refl

is_one : (t : Bool) → (cond t 49 48 == 49) ≡ t
is_one true = refl
is_one false = refl

read : (b : ℕ) → b < 256 → (get_or WORD_BYTES b 0 == 49) ≡ is_word_byte b
read b h =
    ap (λ (n : ℕ). n == 49) (ap (λ t. get_or t b 0) table_is ∙ get_or-map-range_with_len digit 0 256 b b 0 h (omega arith))
    ∙ is_one (is_word_byte b)

pub returns : goal.returns
returns c = read c.args.byte (omega arith)
