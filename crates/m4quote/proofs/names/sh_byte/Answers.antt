use Rattle.std.proofs.Common.{◌≡◌, ℕ, ◌<◌, map, get_or, refl, ap, ◌∙◌, arith}
use Rattle.std.proofs.lemmas.List.FromFn.{get_or-map-range_with_len}
use Rattle.std.specs.List.{range_with_len}
use Rattle.m4quote.specs.Names.{sh_byte}
use Rattle.m4quote.specs.declared.names.TheConstants.{SH_BYTES}
use Rattle.m4quote.proofs.names.sh_byte.Goals as goal

-- The table has what each byte becomes.
table_is : SH_BYTES ≡ map sh_byte (range_with_len 0 256)
table_is = refl

read : (b : ℕ) → b < 256 → get_or SH_BYTES b 0 ≡ sh_byte b
read b h = ap (λ t. get_or t b 0) table_is ∙ get_or-map-range_with_len sh_byte 0 256 b b 0 h (omega arith)

pub returns : goal.returns
returns c = read c.args.byte (omega arith)
