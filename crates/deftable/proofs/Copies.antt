-- A table that is copied entry by entry.
use Rattle.std.proofs.Common.{◌≡◌, ℕ, ◌+◌, ◌≤◌, List, [], ◌∷◌, false, cond, Option, Some, length, take, suc, zero, sym, ap, ◌∙◌, arith}
use Rattle.std.specs.Prelude.{slice_get, bytes_eq}
use Rattle.std.specs.List.{AllByRecursion, IsDistinct}
use Rattle.std.specs.Cmp.Lexicographic.{nat_list_eq_equiv}
use Rattle.std.proofs.lemmas.List.{take_all}
use Rattle.deftable.specs.ShellName.{IsShellName}
use Rattle.deftable.specs.Table.{with_entry, names_of, HasDistinctNames, HasShellNames}

some_inj : (x y : List ℕ × List ℕ) → ◌≡◌ {A = Option (List ℕ × List ℕ)} (Some x) (Some y) → x ≡ y
some_inj x y e = cc

-- What holds of all names holds of that of the entry at i.
name_at : (P : List ℕ → Type 0) (es : List (List ℕ × List ℕ)) (i : ℕ) (e : List ℕ × List ℕ) → slice_get es i ≡ Some e → AllByRecursion P (names_of es) → P e.0
name_at P [] i e at h = absurd (cc)
name_at P (x ∷ es) zero e at h = let same = some_inj x e at in rw (← same) h.0
name_at P (x ∷ es) (suc i) e at h = name_at P es i e at h.1

pub shell_name_at : (es : List (List ℕ × List ℕ)) (i : ℕ) (e : List ℕ × List ℕ) → HasShellNames es → slice_get es i ≡ Some e → IsShellName e.0
shell_name_at es i e h at = name_at IsShellName es i e at h

-- The entry at i goes after those before it.
placed : (es : List (List ℕ × List ℕ)) (i : ℕ) (e : List ℕ × List ℕ) → HasDistinctNames es → slice_get es i ≡ Some e → with_entry (take i es) e.0 e.1 ≡ take (i + 1) es
unfolding with_entry IsDistinct
placed [] i e h at = absurd (cc)
placed (x ∷ es) zero e h at = ap (λ y. y ∷ []) (sym (some_inj x e at))
placed (x ∷ es) (suc i) e h at =
    let n : suc i + 1 ≡ suc (i + 1) = omega arith in
    let apart : bytes_eq e.0 x.0 ≡ false = nat_list_eq_equiv.symm e.0 x.0 ∙ name_at (λ y. bytes_eq x.0 y ≡ false) es i e at h.0 in
    ap (λ b. cond b ((x.0, e.1) ∷ take i es) (x ∷ with_entry (take i es) e.0 e.1)) apart
    ∙ ap (λ t. x ∷ t) (placed es i e h.1 at)
    ∙ ap (λ k. take k (x ∷ es)) (sym n)

pub copied_more : (es now next : List (List ℕ × List ℕ)) (i : ℕ) (e : List ℕ × List ℕ) → HasDistinctNames es → slice_get es i ≡ Some e → now ≡ take i es → next ≡ with_entry now e.0 e.1
    → next ≡ take (i + 1) es
copied_more es now next i e h at so put = put ∙ ap (λ t. with_entry t e.0 e.1) so ∙ placed es i e h at

pub copied_end : (es now : List (List ℕ × List ℕ)) (i : ℕ) → length es ≤ i → now ≡ take i es → now ≡ es
copied_end es now i le so = so ∙ take_all i es le
