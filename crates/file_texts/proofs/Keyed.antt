-- Tables of keys, by which most comparisons are left out.
use Rattle.std.proofs.Common.{◌≡◌, ◌==◌, ℕ, Bool, true, false, List, [], ◌∷◌, ◌++◌, Option, Some, None, ◌&&◌, ◌||◌, take, refl, sym, ap, subst, ◌∙◌, cond}
use Rattle.std.specs.Prelude.{All, bytes_eq, is_some}
use Rattle.std.specs.List.{list_any}
use Rattle.std.proofs.lemmas.Bool.{and_parts, eqb-true}
use Rattle.std.specs.Int.{to_be_bytes, w64}
use Rattle.std.proofs.lemmas.List.Elements.{All-nil, All-push, All-head, All-tail, All-take, All-weaker}
use Rattle.std.proofs.lemmas.Slice.Eq.{bytes_eq-Decides}
use Rattle.deftable.specs.Table.{value_of, with_entry}
use Rattle.deftable.proofs.Tables.{value_of-with_entry}
use Rattle.deftable.proofs.Names.{is_some-of}
use Rattle.file_texts.specs.Keys.{AreInTable, AreKeyed, AreNamed, AreKeyedGuards, place_key, guard_key, key_at}
use Rattle.file_texts.specs.Places.{is_place, is_at, is_among, is_name_guarded, is_place_guarded}
use Rattle.file_texts.specs.declared.places.Guard.{Guard}
use Rattle.file_texts.specs.declared.places.FilePlace.{FilePlace}

pub ruleset has_value = (is_some-of)

-- A name that is in a table stays there.
stays : (table : List (List ℕ × List ℕ)) (k v q : List ℕ) → is_some (value_of table q) ≡ true → is_some (value_of (with_entry table k v) q) ≡ true
stays table k v q h =
    ap is_some (value_of-with_entry table k v q)
    ∙ (elim (bytes_eq q k) as (λ b. is_some (cond b (Some v) (value_of table q)) ≡ true) [ true ↦ refl | false ↦ h ])

comes : (table : List (List ℕ × List ℕ)) (k v : List ℕ) → is_some (value_of (with_entry table k v) k) ≡ true
comes table k v =
    ap is_some (value_of-with_entry table k v k)
    ∙ ap (λ b. is_some (cond b (Some v) (value_of table k))) ((bytes_eq-Decides k k).1 refl)

pub all_stay : {A : Type 0} (key : A → List ℕ) (table : List (List ℕ × List ℕ)) (k v : List ℕ) (xs : List A) → AreInTable key table xs → AreInTable key (with_entry table k v) xs
unfolding AreInTable
all_stay key table k v xs are =
    All-weaker (λ x. is_some (value_of table (key x)) ≡ true) (λ x. is_some (value_of (with_entry table k v) (key x)) ≡ true) (λ x h. stays table k v (key x) h) xs are

pub one_comes : {A : Type 0} (key : A → List ℕ) (table : List (List ℕ × List ℕ)) (v : List ℕ) (xs : List A) (x : A) → AreInTable key table xs → AreInTable key (with_entry table (key x) v) (xs ++ x ∷ [])
unfolding AreInTable
one_comes key table v xs x are =
    All-push (λ y. is_some (value_of (with_entry table (key x) v) (key y)) ≡ true) xs x (all_stay key table (key x) v xs are) (comes table (key x) v)

pub none_in_table : {A : Type 0} (key : A → List ℕ) (table : List (List ℕ × List ℕ)) → AreInTable key table []
unfolding AreInTable
none_in_table key table = All-nil (λ x. is_some (value_of table (key x)) ≡ true)

pub front_in_table : {A : Type 0} (key : A → List ℕ) (table : List (List ℕ × List ℕ)) (n : ℕ) (xs : List A) → AreInTable key table xs → AreInTable key table (take n xs)
unfolding AreInTable
front_in_table key table n xs are = All-take (λ x. is_some (value_of table (key x)) ≡ true) n xs are

-- If a key is no name of the table, none of those whose keys are passes a test that only what has this key passes.
none_passes : {A : Type 0} (key : A → List ℕ) (test : A → Bool) (table : List (List ℕ × List ℕ)) (k : List ℕ) → ((x : A) → test x ≡ true → key x ≡ k)
    → (xs : List A) → AreInTable key table xs → is_some (value_of table k) ≡ false → list_any test xs ≡ false
unfolding AreInTable
none_passes key test table k same [] are none = refl
none_passes key test table k same (x ∷ xs) are none =
    let P : _ → Type 0 = λ y. is_some (value_of table (key y)) ≡ true in
    let rest : list_any test xs ≡ false = none_passes key test table k same xs (All-tail P x xs are) none in
    let first : test x ≡ false = elim (test x) as (λ b. test x ≡ b → b ≡ false) [
      | true ↦ λ is. absurd (differ (sym (All-head P x xs are) ∙ ap (λ q. is_some (value_of table q)) (same x is) ∙ none))
      | false ↦ λ _. refl
    ] refl in
    ap (λ b. b || list_any test xs) first ∙ rest
  where
    differ : true ≡ false → ⊥
    differ e = cc

-- Places that are one have one key.
one_key : (place other : FilePlace) → is_place place other ≡ true → place_key other ≡ place_key place
unfolding place_key
one_key place other is =
    let numbers = and_parts (place.directory == other.directory) ((place.device == other.device) && bytes_eq place.name other.name) is in
    let names = and_parts (place.device == other.device) (bytes_eq place.name other.name) numbers.1 in
    let one : other.directory ≡ place.directory = sym (eqb-true place.directory other.directory numbers.0) in
    let same : other.name ≡ place.name = sym ((bytes_eq-Decides place.name other.name).0 names.1) in
    ap (λ d. to_be_bytes w64 d ++ other.name) one ∙ ap (λ n. to_be_bytes w64 place.directory ++ n) same

guard_has_key : (place : FilePlace) (guard : Guard) → is_at place guard.place ≡ true → guard_key guard ≡ place_key place
guard_has_key place guard is = at_place guard.place is
  where
    at_place : (there : Option FilePlace) → is_at place there ≡ true → key_at there ≡ place_key place
    at_place None is = cc
    at_place (Some other) is = one_key place other is

pub place_missing : (table : List (List ℕ × List ℕ)) (place : FilePlace) (list places : List FilePlace) (key : List ℕ) (found : Bool)
    → list ≡ places → AreKeyed table list → key ≡ place_key place → found ≡ is_some (value_of table key) → found ≡ false → found ≡ is_among place places
place_missing table place list places key found same are is_key is none =
    let missing : is_some (value_of table (place_key place)) ≡ false = ap (λ k. is_some (value_of table k)) (sym is_key) ∙ sym is ∙ none in
    none ∙ sym (ap (is_among place) (sym same) ∙ none_passes place_key (λ other. is_place place other) table (place_key place) (λ other h. one_key place other h) list are missing)

pub guarded_missing : (table : List (List ℕ × List ℕ)) (place : FilePlace) (list guards : List Guard) (key : List ℕ) (found : Bool)
    → list ≡ guards → AreKeyedGuards table list → key ≡ place_key place → found ≡ is_some (value_of table key) → found ≡ false → found ≡ is_place_guarded place guards
guarded_missing table place list guards key found same are is_key is none =
    let missing : is_some (value_of table (place_key place)) ≡ false = ap (λ k. is_some (value_of table k)) (sym is_key) ∙ sym is ∙ none in
    none ∙ sym (ap (is_place_guarded place) (sym same) ∙ none_passes guard_key (λ guard. is_at place guard.place) table (place_key place) (λ guard h. guard_has_key place guard h) list are missing)

pub name_missing : (table : List (List ℕ × List ℕ)) (name : List ℕ) (list guards : List Guard) (found : Bool)
    → list ≡ guards → AreNamed table list → found ≡ is_some (value_of table name) → found ≡ false → found ≡ is_name_guarded name guards
name_missing table name list guards found same are is none =
    none ∙ sym (ap (is_name_guarded name) (sym same) ∙ none_passes (λ guard. guard.name) (λ guard. bytes_eq guard.name name) table name (λ guard h. (bytes_eq-Decides guard.name name).0 h) list are (sym is ∙ none))

pub guard_comes : (names keys new_names new_keys : List (List ℕ × List ℕ)) (old new : List Guard) (guard : Guard) (name key v w : List ℕ)
    → AreNamed names old × AreKeyedGuards keys old → name ≡ guard.name → key ≡ guard_key guard → new_names ≡ with_entry names name v → new_keys ≡ with_entry keys key w → new ≡ old ++ guard ∷ []
    → AreNamed new_names new × AreKeyedGuards new_keys new
guard_comes names keys new_names new_keys old new guard name key v w are is_name is_key names_is keys_is new_is =
    let by_name : Guard → List ℕ = λ g. g.name in
    let named : AreNamed new_names (old ++ guard ∷ []) =
    subst (λ t. AreInTable by_name t (old ++ guard ∷ [])) (sym (names_is ∙ ap (λ n. with_entry names n v) is_name)) (one_comes by_name names v old guard are.0) in
    let keyed : AreKeyedGuards new_keys (old ++ guard ∷ []) =
    subst (λ t. AreInTable guard_key t (old ++ guard ∷ [])) (sym (keys_is ∙ ap (λ n. with_entry keys n w) is_key)) (one_comes guard_key keys w old guard are.1) in
    (subst (λ l. AreNamed new_names l) (sym new_is) named, subst (λ l. AreKeyedGuards new_keys l) (sym new_is) keyed)

pub ruleset keying = (one_comes, all_stay, none_in_table, front_in_table)
