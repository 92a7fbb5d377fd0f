use Rattle.std.proofs.Common.{◌≡◌, ℕ, ◌==◌, ◌<◌, Bool, true, false, map, cond, get_or, refl, ap, ◌∙◌, arith}
use Rattle.std.proofs.lemmas.List.FromFn.{get_or-map-range_with_len}
use Rattle.std.specs.List.{range_with_len}
use Rattle.deftable.specs.ShellName.{continues_name}
use Rattle.deftable.specs.declared.shell_name.TheConstants.{NAME_BYTES}
use Rattle.deftable.proofs.shell_name.is_name_byte.Goals as goal

abbrev digit : ℕ → ℕ
digit b = cond (continues_name b) 49 48

-- The table has the digit of each byte.
table_is : NAME_BYTES ≡ map digit (range_with_len 0 256)
table_is = refl

is_one : (t : Bool) → (cond t 49 48 == 49) ≡ t
is_one true = refl
is_one false = refl

read : (b : ℕ) → b < 256 → (get_or NAME_BYTES b 0 == 49) ≡ continues_name b
read b h =
    ap (λ (n : ℕ). n == 49) (ap (λ t. get_or t b 0) table_is ∙ get_or-map-range_with_len digit 0 256 b b 0 h (omega arith))
    ∙ is_one (continues_name b)

pub returns : goal.returns
returns c = read c.args.byte (omega arith)
