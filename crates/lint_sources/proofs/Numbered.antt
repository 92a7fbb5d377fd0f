-- Places of templates by their number.
use Rattle.std.proofs.Common.{◌≡◌, ℕ, zero, suc, ◌-◌, ◌<◌, ◌≤◌, List, [], ◌∷◌, ◌++◌, length, refl, ap, ◌∙◌, arith}
use Rattle.std.specs.Prelude.{slice_get}

pub of_header : (files headers : List ℕ) (i : ℕ) → length files ≤ i → slice_get headers (i - length files) ≡ slice_get (files ++ headers) i
of_header [] headers i after = ap (slice_get headers) (let e : i - 0 ≡ i = omega arith in e)
of_header (x ∷ files) headers zero after = absurd (omega (arith, after))
of_header (x ∷ files) headers (suc i) after =
    ap (slice_get headers) (let e : suc i - suc (length files) ≡ i - length files = omega arith in e) ∙ of_header files headers i (omega (arith, after))

pub of_file : (files headers : List ℕ) (i : ℕ) → i < length files → slice_get files i ≡ slice_get (files ++ headers) i
of_file [] headers i within = absurd (omega (arith, within))
of_file (x ∷ files) headers zero within = refl
of_file (x ∷ files) headers (suc i) within = of_file files headers i (omega (arith, within))
