-- What the settings of saved entries make of a variable: a mark is set, and another name gets a
-- default.
use Rattle.std.proofs.Common.{◌≡◌, ℕ, Bool, true, false, cond, List, [], ◌∷◌, Option, Some, None, inl, inr, map, refl, sym, ap, ◌∙◌, subst}
use Rattle.std.specs.Prelude.{bytes_eq, is_some, if◌then◌else◌}
use Rattle.std.specs.List.{IsDistinct, AllByRecursion}
use Rattle.std.proofs.lemmas.Slice.Eq.{bytes_eq-Decides}
use Rattle.cachefile.specs.Cache.{with_setting, vars_after, value_after}
use Rattle.cachefile.specs.Line.{Sets, Defaults}
use Rattle.cachefile.specs.Name.{is_mark}
use Rattle.cachefile.specs.Text.{is_saved, saved_value}
use Rattle.cachefile.proofs.Orders.{Entries, AreSaved, decided}
use Rattle.cachefile.proofs.Pours.{value_of-with_setting}
use Rattle.deftable.specs.CacheName.{is_cache_name}
use Rattle.deftable.specs.Table.{value_of, names_of, HasDistinctNames}
use Rattle.meaning_resumption.specs.Poured.{poured}
use Rattle.meaning_resumption.proofs.Names.{saved_so, cached_so, ordinary_unsaved}
use Rattle.cachefile.proofs.Texts.{absent, setting_of}

-- The value of a name after the settings of saved entries, by whether it is a mark, its saved
-- value, and its value before.
abbrev pub over : Bool → Option (List ℕ) → Option (List ℕ) → Option (List ℕ)
over true None old = old
over true (Some value) old = Some value
over false saved None = saved
over false saved (Some value) = Some value

over_none : (m : Bool) (o : Option (List ℕ)) → over m None o ≡ o
over_none true o = refl
over_none false None = refl
over_none false (Some v) = refl

default_over : (o : Option (List ℕ)) (v : List ℕ) → cond (is_some o) o (Some v) ≡ over false (Some v) o
default_over None v = refl
default_over (Some u) v = refl

one_setting : (base : Entries) (e : List ℕ × List ℕ) (q : List ℕ) (m : Bool) → is_mark e.0 ≡ m → value_of (with_setting base (setting_of e)) q ≡ value_after q (value_of base q) (if m then Sets e.0 e.1 else Defaults e.0 e.1)
one_setting base e q m h = value_of-with_setting base (setting_of e) q ∙ ap (λ b. value_after q (value_of base q) (if b then Sets e.0 e.1 else Defaults e.0 e.1)) h

own_setting : (base : Entries) (e : List ℕ × List ℕ) (q : List ℕ) → bytes_eq q e.0 ≡ true → (m : Bool) → is_mark e.0 ≡ m → value_of (with_setting base (setting_of e)) q ≡ over m (Some e.1) (value_of base q)
own_setting base e q own true h = one_setting base e q true h ∙ ap (λ b. cond b (Some e.1) (value_of base q)) own
own_setting base e q own false h =
    one_setting base e q false h ∙ ap (λ b. cond b (cond (is_some (value_of base q)) (value_of base q) (Some e.1)) (value_of base q)) own ∙ default_over (value_of base q) e.1

other_setting : (base : Entries) (e : List ℕ × List ℕ) (q : List ℕ) → bytes_eq q e.0 ≡ false → (m : Bool) → is_mark e.0 ≡ m → value_of (with_setting base (setting_of e)) q ≡ value_of base q
other_setting base e q other true h = one_setting base e q true h ∙ ap (λ b. cond b (Some e.1) (value_of base q)) other
other_setting base e q other false h =
    one_setting base e q false h ∙ ap (λ b. cond b (cond (is_some (value_of base q)) (value_of base q) (Some e.1)) (value_of base q)) other

pub value_over : (es base : Entries) (q : List ℕ) → HasDistinctNames es → value_of (vars_after (map setting_of es) base) q ≡ over (is_mark q) (value_of es q) (value_of base q)
unfolding value_of IsDistinct
value_over [] base q distinct = sym (over_none (is_mark q) (value_of base q))
value_over (e ∷ es) base q distinct = value_over es (with_setting base (setting_of e)) q distinct.1 ∙ (elim (decided (bytes_eq q e.0)) [
  | inl h ↦
      let same : q ≡ e.0 = (bytes_eq-Decides q e.0).0 h in
      let gone : value_of es q ≡ None = absent es q (subst (λ n. AllByRecursion (λ y. bytes_eq n y ≡ false) (names_of es)) (sym same) distinct.0) in
      let now = value_of (with_setting base (setting_of e)) q in
      ap (λ o. over (is_mark q) o now) gone ∙ over_none (is_mark q) now ∙ own_setting base e q h (is_mark q) (ap is_mark (sym same))
      ∙ ap (λ b. over (is_mark q) (cond b (Some e.1) (value_of es q)) (value_of base q)) (sym h)
  | inr h ↦
      ap (over (is_mark q) (value_of es q)) (other_setting base e q h (is_mark e.0) refl)
      ∙ ap (λ b. over (is_mark q) (cond b (Some e.1) (value_of es q)) (value_of base q)) (sym h)
])

-- ---- values that are saved

-- Each value of saved entries is one that is saved.
pub saved_there : (es : Entries) → AreSaved es → (q v : List ℕ) → value_of es q ≡ Some v → is_saved (q, v) ≡ true
unfolding value_of
saved_there [] all q v e = cc
saved_there (x ∷ es) all q v e = by (bytes_eq q x.0) refl e (saved_there es all.1 q v)
  where
    by : (b : Bool) → bytes_eq q x.0 ≡ b → cond b (Some x.1) (value_of es q) ≡ Some v → (value_of es q ≡ Some v → is_saved (q, v) ≡ true) → is_saved (q, v) ≡ true
    by true h k later =
        let value : x.1 ≡ v = cc in
        ap (λ n. is_saved (n, v)) ((bytes_eq-Decides q x.0).0 h) ∙ ap (λ w. is_saved (x.0, w)) (sym value) ∙ all.0
    by false h k later = later k

saved_is : (q : List ℕ) (o : Option (List ℕ)) (w : List ℕ) → saved_value q o ≡ Some w → (is_cache_name q ≡ true) × (o ≡ Some w)
saved_is q None w e = cc
saved_is q (Some v) w e = by (is_saved (q, v)) refl e
  where
    by : (b : Bool) → is_saved (q, v) ≡ b → cond b (Some v) None ≡ Some w → (is_cache_name q ≡ true) × (Some v ≡ Some w)
    by true h k = (cached_so q v h, k)
    by false h k = cc

not_saved : (q v : List ℕ) (o : Option (List ℕ)) → is_saved (q, v) ≡ true → o ≡ Some v → saved_value q o ≡ None → ⊥
not_saved q v o s e h = let z : Some v ≡ None = sym (saved_so q v s) ∙ ap (saved_value q) (sym e) ∙ h in cc

-- A second pouring over the same base gives the value that was saved, or else the one with which
-- the first run began. `s` is the value of the first run's own cache, `r` the one below it, and `o`
-- that of the first run's end.
pub poured_again : (m : Bool) (q : List ℕ) (s saved r o : Option (List ℕ)) → saved ≡ saved_value q o → ((v : List ℕ) → s ≡ Some v → is_saved (q, v) ≡ true)
    → ((v : List ℕ) → is_cache_name q ≡ true → over m s r ≡ Some v → o ≡ Some v) → over m saved r ≡ poured saved (over m s r)
poured_again true q s (Some w) r o is ok keeps = refl
poured_again false q s (Some w) None o is ok keeps = refl
poured_again false q s (Some w) (Some v) o is ok keeps =
    let had = saved_is q o w (sym is) in
    sym (keeps v had.0 refl) ∙ had.1
poured_again true q None None r o is ok keeps = refl
poured_again true q (Some v) None r o is ok keeps = absurd (not_saved q v o (ok v refl) (keeps v (cached_so q v (ok v refl)) refl) (sym is))
poured_again false q s None (Some u) o is ok keeps = refl
poured_again false q None None None o is ok keeps = refl
poured_again false q (Some v) None None o is ok keeps = absurd (not_saved q v o (ok v refl) (keeps v (cached_so q v (ok v refl)) refl) (sym is))

self_over : (b : Bool) (u : List ℕ) → over true (cond b (Some u) None) (Some u) ≡ Some u
self_over true u = refl
self_over false u = refl

-- A mark that is set before has the same value after both caches.
pub mark_again : (q : List ℕ) (s r o : Option (List ℕ)) → is_some r ≡ true → ((v : List ℕ) → s ≡ Some v → is_saved (q, v) ≡ true)
    → ((v : List ℕ) → is_cache_name q ≡ true → over true s r ≡ Some v → o ≡ Some v) → over true (saved_value q o) r ≡ over true s r
mark_again q (Some u) r o there ok keeps =
    ap (λ x. over true (saved_value q x) r) (keeps u (cached_so q u (ok u refl)) refl) ∙ ap (λ x. over true x r) (saved_so q u (ok u refl))
mark_again q None None o there ok keeps = cc
mark_again q None (Some u) o there ok keeps = elim (decided (is_cache_name q)) [
  | inl h ↦ ap (λ x. over true (saved_value q x) (Some u)) (keeps u h refl) ∙ self_over (is_saved (q, u)) u
  | inr h ↦ ap (λ x. over true x (Some u)) (ordinary_unsaved q o h)
]
