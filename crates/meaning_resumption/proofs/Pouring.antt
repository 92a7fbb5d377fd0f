-- What is poured over an opening.
use Rattle.std.proofs.Common.{◌≡◌, ◌⊎◌, inl, inr, ℕ, Bool, true, false, cond, List, [], ◌∷◌, Option, Some, None, refl, sym, ap, ◌∙◌, subst, ⊎_elim}
use Rattle.std.specs.Prelude.{bytes_eq, is_some, ◌&&◌}
use Rattle.cachefile.specs.Cache.{with_setting, vars_after, value_after}
use Rattle.cachefile.specs.Line.{Setting, Sets, Defaults}
use Rattle.cachefile.specs.Text.{is_one_line, saved_value}
use Rattle.cachefile.proofs.Pours.{value_of-with_setting}
use Rattle.deftable.specs.CacheName.{is_cache_name}
use Rattle.deftable.specs.Table.{value_of}
use Rattle.meaning.specs.State.{opened}
use Rattle.meaning.specs.Meaning.{meaning}
use Rattle.meaning_resumption.specs.Plays.{played}
use Rattle.meaning_resumption.specs.Poured.{poured}
use Rattle.meaning_resumption.specs.Opening.{HadCached, CachePours}
use Rattle.meaning_resumption.proofs.Names.{saved_or_not, saved_so, cached_so}
use Rattle.meaning_laws.proofs.Plays.{same_end, whole_enough}
use Rattle.meaning_resumption.proofs.Whole.{script_part}

abbrev Variables : Type 0
Variables = List (List ℕ × List ℕ)

-- The value of a name after settings made where nothing is set, and after the same over an old value: they are equal, or the
-- old value is still there.
record Over (old a b : Option (List ℕ)) : Type 0 where
  is : ((a ≡ b) × ((is_some a ≡ true) ⊎ (old ≡ None))) ⊎ ((b ≡ old) × (old ≡ None → a ≡ None))

over_default : (old a b : Option (List ℕ)) (v : List ℕ) → Over old a b → Over old (cond (is_some a) a (Some v)) (cond (is_some b) b (Some v))
over_default old None None v o = record { is = inl (refl, inl refl) }
over_default old (Some x) (Some y) v o = o
over_default old None (Some y) v o = record {
  is = ⊎_elim (λ h. let z : None ≡ Some y = h.0 in cc)
      (λ h. inr (h.0, λ n. let z : Some y ≡ None = h.0 ∙ n in cc)) o.is;
}
over_default old (Some x) None v o = record {
  is = ⊎_elim (λ h. let z : Some x ≡ None = h.0 in cc)
      (λ h. let z : Some x ≡ None = h.1 (sym h.0) in cc) o.is;
}

over_one : (old a b : Option (List ℕ)) (q : List ℕ) (s : Setting) → Over old a b → Over old (value_after q a s) (value_after q b s)
over_one old a b q (Sets name value) o = by_name (bytes_eq q name)
  where
    by_name : (c : Bool) → Over old (cond c (Some value) a) (cond c (Some value) b)
    by_name true = record { is = inl (refl, inl refl) }
    by_name false = o
over_one old a b q (Defaults name value) o = by_name (bytes_eq q name)
  where
    by_name : (c : Bool) → Over old (cond c (cond (is_some a) a (Some value)) a) (cond c (cond (is_some b) b (Some value)) b)
    by_name true = over_default old a b value o
    by_name false = o

over_all : (old : Option (List ℕ)) (settings : List Setting) (x y : Variables) (q : List ℕ) → Over old (value_of x q) (value_of y q) → Over old (value_of (vars_after settings x) q) (value_of (vars_after settings y) q)
over_all old [] x y q o = o
over_all old (s ∷ more) x y q o =
    over_all old more (with_setting x s) (with_setting y s) q
    (subst (λ a. Over old a (value_of (with_setting y s) q)) (sym (value_of-with_setting x s q))
    (subst (λ b. Over old (value_after q (value_of x q) s) b) (sym (value_of-with_setting y s q)) (over_one old (value_of x q) (value_of y q) q s o)))

-- If the old value is the saved one, or none is saved, the saved value is poured over the old one.
over_poured : (old a b : Option (List ℕ)) → Over old a b → ((w : List ℕ) → old ≡ Some w → (a ≡ Some w) ⊎ (a ≡ None)) → b ≡ poured a old
over_poured None a b o h = ⊎_elim (λ k. sym k.0 ∙ none a) (λ k. k.0 ∙ sym (ap (λ x. poured x None) (k.1 refl))) o.is
  where
    none : (x : Option (List ℕ)) → x ≡ poured x None
    none None = refl
    none (Some v) = refl
over_poured (Some w) None b o h =
    ⊎_elim (λ k. ⊎_elim (λ s. let z : false ≡ true = s in cc) (λ n. cc) k.1) (λ k. k.0) o.is
over_poured (Some w) (Some v) b o h =
    ⊎_elim (λ k. sym k.0) (λ k. k.0 ∙ ⊎_elim (λ e. sym e) (λ n. cc) (h w refl)) o.is

-- The value of an ordinary name isn't saved.
unless_cached : (n : List ℕ) (o : Option (List ℕ)) → (is_cache_name n ≡ true) ⊎ (saved_value n o ≡ None)
unless_cached n None = inr refl
unless_cached n (Some v) = by_test (is_cache_name n) refl
  where
    by_test : (b : Bool) → is_cache_name n ≡ b → (is_cache_name n ≡ true) ⊎ (cond (is_cache_name n && is_one_line v) (Some v) None ≡ None)
    by_test true e = inl e
    by_test false e = inr (ap (λ b. cond (b && is_one_line v) (Some v) None) e)

none_there : (n : List ℕ) → value_of [] n ≡ None
unfolding value_of
none_there n = refl

pub cache_pours : CachePours
cache_pours script opening before replies text resumable commands names enough began cache =
    let end = (played script (opened before) replies).state.vars in
    let same = (same_end (meaning script (opened before)) 0 None replies).vars in
    let sets = (script_part script [] [] (λ n k. k) commands names resumable).sets (opened before) replies (whole_enough (meaning script (opened before)) replies enough) in
    let keeps : (n v : List ℕ) → is_cache_name n ≡ true → value_of before n ≡ Some v → value_of end n ≡ Some v = λ n v c e. ap (λ l. value_of l n) same ∙ sets.keeps n v c e in
    let second : List ℕ → Option (List ℕ) = λ n. value_of (vars_after cache.settings opening) n in
    record {
      defs = refl;
      value = λ n.
          let saved = saved_value n (value_of end n) in
          let nothing : Over (value_of opening n) (value_of [] n) (value_of opening n) = record { is = inr (refl, λ e. none_there n) } in
          let over : Over (value_of opening n) saved (second n) =
          subst (λ a. Over (value_of opening n) a (second n)) (cache.values n) (over_all (value_of opening n) cache.settings [] opening n nothing) in
          let kept : (w : List ℕ) → value_of before n ≡ Some w → (saved ≡ Some w) ⊎ (saved ≡ None) =
          λ w e. ⊎_elim
          (λ c. let at_end = keeps n w c e in ⊎_elim (λ k. inl (k ∙ at_end)) (λ k. inr k) (saved_or_not n (value_of end n)))
          (λ k. inr k) (unless_cached n (value_of end n)) in
          ⊎_elim
          (λ e. over_poured (value_of opening n) saved (second n) over (λ w k. kept w (e ∙ k)) ∙ ap (poured saved) (sym e))
          (λ had. by_cache n had saved (second n) over
          (ap (saved_value n) (keeps n had.value (cached_so n had.value had.saved) had.set) ∙ saved_so n had.value had.saved))
          (began n);
    }
  where
    by_cache : (n : List ℕ) (had : HadCached n opening before) (saved second : Option (List ℕ)) → Over (value_of opening n) saved second → saved ≡ Some had.value → second ≡ poured saved (value_of before n)
    by_cache n had saved second over e =
        over_poured (value_of opening n) saved second over (λ w k. let z : None ≡ Some w = sym had.unset ∙ k in cc)
        ∙ ap (λ x. poured x (value_of opening n)) e ∙ sym (ap (λ x. poured x (value_of before n)) e)
