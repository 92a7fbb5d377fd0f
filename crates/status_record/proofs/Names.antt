-- Lists of names in which none occurs twice.
use Rattle.std.proofs.Common.{◌≡◌, ℕ, List, [], ◌∷◌, ◌++◌, ◌||◌, refl, ◌∙◌, Bool, true, false}
use Rattle.std.specs.List.{IsDistinct, AllByRecursion}
use Rattle.std.specs.Cmp.Lexicographic.{nat_list_eq_equiv}
use Rattle.std.specs.Prelude.{bytes_eq}
use Rattle.deftable.specs.NameList.{has_name, AreDistinct}

pub AreDistinct-[] : AreDistinct []
unfolding IsDistinct
AreDistinct-[] = tt

pub AreDistinct-push : (ns : List (List ℕ)) (k : List ℕ) → has_name ns k ≡ false → AreDistinct ns → AreDistinct (ns ++ k ∷ [])
unfolding IsDistinct has_name
AreDistinct-push [] k new h = (tt, tt)
AreDistinct-push (n ∷ ns) k new h =
    let p = neither (bytes_eq k n) (has_name ns k) new in
    (pushed ns (nat_list_eq_equiv.symm n k ∙ p.0) h.0, AreDistinct-push ns k p.1 h.1)
  where
    neither : (a b : Bool) → a || b ≡ false → (a ≡ false) × (b ≡ false)
    neither true b e = absurd cc
    neither false b e = (refl, e)

    pushed : (ms : List (List ℕ)) → bytes_eq n k ≡ false → AllByRecursion (λ y. bytes_eq n y ≡ false) ms → AllByRecursion (λ y. bytes_eq n y ≡ false) (ms ++ k ∷ [])
    pushed [] e all = (e, tt)
    pushed (m ∷ ms) e all = (all.0, pushed ms e all.1)
