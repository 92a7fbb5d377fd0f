-- What a sieve accepts after a text was added.
use Rattle.std.proofs.Common.{◌≡◌, ◌≢◌, ℕ, ◌*◌, ◌%◌, ◌^◌, ◌<◌, List, length, get_or, set, true, false, eqb, bit_or, refl, sym, ◌∙◌, ap, subst, w64, eqb-true, eq-eqb, get_or-set_same, get_or-set_other}
use Rattle.std.specs.Int.{bit_at}
use Rattle.std.proofs.lemmas.Nat.Bits.{bit_at_set_same}
use Rattle.memchr.proofs.lemmas.BitLemmas.{bit_at_left}
use Rattle.template.specs.Keys.{row_of, end_slot, Passes}

pub Passes-added : (rows text : List ℕ) (row bit : ℕ) → row ≡ row_of text → bit ≡ end_slot text → row < length rows → bit < 64
    → Passes (set rows row (bit_or (get_or rows row 0) (1 * 2 ^ bit % 2 ^ 64))) text
unfolding Passes
Passes-added rows text row bit e f lt small =
    let v = bit_or (get_or rows row 0) (1 * 2 ^ bit % 2 ^ 64) in
    subst (λ r. bit_at (get_or (set rows row v) r 0) (end_slot text) ≡ 1) e
    (subst (λ b. bit_at (get_or (set rows row v) row 0) b ≡ 1) f
    (ap (λ n. bit_at n bit) (get_or-set_same rows row v 0 lt) ∙ bit_at_set_same w64 (get_or rows row 0) bit small))

pub Passes-kept : (rows : List ℕ) (row x : ℕ) → row < length rows → (other : List ℕ) → Passes rows other → Passes (set rows row (bit_or (get_or rows row 0) x)) other
unfolding Passes
Passes-kept rows row x lt other h =
    let v = bit_or (get_or rows row 0) x in
    elim (eqb row (row_of other)) as (λ b. eqb row (row_of other) ≡ b → bit_at (get_or (set rows row v) (row_of other) 0) (end_slot other) ≡ 1) [
      | true ↦ λ e.
          let is : row ≡ row_of other = eqb-true row (row_of other) e in
          let was : bit_at (get_or rows row 0) (end_slot other) ≡ 1 = subst (λ r. bit_at (get_or rows r 0) (end_slot other) ≡ 1) (sym is) h in
          subst (λ r. bit_at (get_or (set rows row v) r 0) (end_slot other) ≡ 1) is
          (ap (λ n. bit_at n (end_slot other)) (get_or-set_same rows row v 0 lt) ∙ bit_at_left (get_or rows row 0) x (end_slot other) was)
      | false ↦ λ e.
          let apart : row_of other ≢ row = λ is. let t : eqb row (row_of other) ≡ true = eq-eqb row (row_of other) (sym is) in absurd cc in
          ap (λ n. bit_at n (end_slot other)) (get_or-set_other rows row (row_of other) v 0 apart) ∙ h
    ] refl
