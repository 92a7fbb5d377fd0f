-- Names, and the values of names.
use Rattle.std.proofs.Common.{◌≡◌, ℕ, Bool, List, [], ◌∷◌, ◌++◌, codes, true, false, cond, Option, Some, None, ◌⊎◌, inl, inr, refl, sym, ap, ◌∙◌, ⊎_elim}
use Rattle.std.specs.Prelude.{bytes_eq, ◌&&◌}
use Rattle.std.proofs.lemmas.Bool.{and_parts, cases_Bool}
use Rattle.cachefile.specs.Text.{is_one_line, is_saved, saved_value}
use Rattle.deftable.specs.CacheName.{is_cache_name, has_cv}
use Rattle.deftable.specs.Table.{value_of, with_entry}
use Rattle.ac_tree.specs.declared.listed.Listed.{Listed}
use Rattle.ac_tree.specs.declared.listed.Listed.TheVariants.{Header, Function, Declaration}
use Rattle.ac_tree.specs.declared.listed.Sought.{Sought}
use Rattle.ac_tree.specs.declared.listed.Sought.TheVariants as seeks
use Rattle.ac_tree.specs.Resumable.{Among, IsOrdinary}
use Rattle.ac_tree.specs.TestNames.{entry_name, sought_name}
use Rattle.meaning.specs.Forms.{form_name}
use Rattle.meaning.specs.Entries.{listed_form, sought_form}
use Rattle.meaning_laws.proofs.Values.{same_text, not_same, apart, value_here, value_there}
use Rattle.meaning_resumption.proofs.Near.{IsCached}

pub same_or_not : (a b : List ℕ) → (a ≡ b) ⊎ (a ≡ b → ⊥)
same_or_not a b = ⊎_elim (λ t. inl (same_text a b t)) (λ f. inr (apart a b f)) (cases_Bool (bytes_eq a b))

-- Equal values stay equal if a name is written in both lists.
pub value_same : (a b : List (List ℕ × List ℕ)) (k v q : List ℕ) → value_of a q ≡ value_of b q → value_of (with_entry a k v) q ≡ value_of (with_entry b k v) q
value_same a b k v q e =
    ⊎_elim
    (λ t.
    let same = same_text q k t in
    ap (value_of (with_entry a k v)) same ∙ value_here a k v ∙ sym (value_here b k v) ∙ ap (value_of (with_entry b k v)) (sym same))
    (λ f. value_there a k v q f ∙ e ∙ sym (value_there b k v q f))
    (cases_Bool (bytes_eq q k))

pub value_else : (es : List (List ℕ × List ℕ)) (k v q : List ℕ) → (k ≡ q → ⊥) → value_of (with_entry es k v) q ≡ value_of es q
value_else es k v q ne = value_there es k v q (not_same q k (λ e. ne (sym e)))

pub among_left : (n : List ℕ) (a b : List (List ℕ)) → Among n a → Among n (a ++ b)
among_left n [] b h = absurd h
among_left n (x ∷ a) b h = ⊎_elim (λ e. inl e) (λ k. inr (among_left n a b k)) h

pub among_right : (n : List ℕ) (a b : List (List ℕ)) → Among n b → Among n (a ++ b)
among_right n [] b h = h
among_right n (x ∷ a) b h = inr (among_right n a b h)

pub among_either : (n : List ℕ) (a b : List (List ℕ)) → Among n (a ++ b) → Among n a ⊎ Among n b
among_either n [] b h = inr h
among_either n (x ∷ a) b h = ⊎_elim (λ e. inl (inl e)) (λ k. ⊎_elim (λ l. inl (inr l)) (λ r. inr r) (among_either n a b k)) h

pub among_wider : (n : List ℕ) (a b c : List (List ℕ)) → (Among n b → Among n c) → Among n (a ++ b) → Among n (a ++ c)
among_wider n a b c w h = ⊎_elim (λ x. among_left n a c x) (λ x. among_right n a c (w x)) (among_either n a b h)

-- ---- ordinary names

pub cc_plain : IsOrdinary (codes "CC")
unfolding is_cache_name has_cv
cc_plain = refl

pub libs_plain : IsOrdinary (codes "LIBS")
unfolding is_cache_name has_cv
libs_plain = refl

pub cached_apart : (a b : List ℕ) → IsCached a → IsOrdinary b → a ≡ b → ⊥
cached_apart a b p q e = let z : true ≡ false = sym p ∙ ap is_cache_name e ∙ q in cc

-- ---- values that are saved

pub saved_or_not : (n : List ℕ) (o : Option (List ℕ)) → (saved_value n o ≡ o) ⊎ (saved_value n o ≡ None)
saved_or_not n None = inl refl
saved_or_not n (Some v) = by_test (is_cache_name n && is_one_line v)
  where
    by_test : (b : Bool) → (cond b (Some v) None ≡ Some v) ⊎ (cond b (Some v) None ≡ None)
    by_test true = inl refl
    by_test false = inr refl

pub saved_so : (n v : List ℕ) → is_saved (n, v) ≡ true → saved_value n (Some v) ≡ Some v
saved_so n v e = ap (λ b. cond b (Some v) None) e

pub cached_so : (n v : List ℕ) → is_saved (n, v) ≡ true → IsCached n
cached_so n v e = (and_parts (is_cache_name n) (is_one_line v) e).0

pub ordinary_unsaved : (n : List ℕ) (o : Option (List ℕ)) → IsOrdinary n → saved_value n o ≡ None
ordinary_unsaved n None p = refl
ordinary_unsaved n (Some v) p = ap (λ b. cond (b && is_one_line v) (Some v) None) p

-- The name of an entry's test is that of its form.
pub entry_named : (listed : Listed) (entry : List ℕ) (defines : Bool) → form_name (listed_form listed entry defines) ≡ entry_name listed entry
entry_named Header entry defines = refl
entry_named Function entry defines = refl
entry_named Declaration entry defines = refl

pub sought_named : (sought : Sought) (entry : List ℕ) (defines : Bool) → form_name (sought_form sought entry defines) ≡ sought_name sought entry
sought_named (seeks.ListEntry listed) entry defines = entry_named listed entry defines
sought_named seeks.«Type» entry defines = refl
