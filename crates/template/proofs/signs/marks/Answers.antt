use Rattle.std.proofs.Common.{◌≡◌, ◌↔◌, take, get_or, eqb, sym, subst, arith, w8}
use Rattle.std.specs.Int.{bit_at}
use Rattle.std.proofs.lemmas.List.{length-take-le}
use Rattle.std.proofs.lemmas.Simd.{bitmask_splat}
use Rattle.template.proofs.Windows.{bit_of_sign}
use Rattle.template.proofs.signs.marks.Goals as goal

pub returns : goal.returns
returns c k below =
    let v = c.args.text.now in
    subst (λ m. (bit_at m k ≡ 1) ↔ (get_or v k 0 ≡ 64)) (sym (bitmask_splat w8 eqb (take 64 v) 64 64 (length-take-le 64 v c.requires) (omega arith))) (bit_of_sign v k below)
