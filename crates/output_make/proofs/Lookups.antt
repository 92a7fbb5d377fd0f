-- What an entry that is added changes of what is found.
use Rattle.std.proofs.Common.{◌≡◌, ℕ, ◌+◌, ◌-◌, ◌<◌, ◌≤◌, arith, List, [], ◌∷◌, Bool, true, false, Option, Some, None, option_map, cond, length, drop, get_or, refl, sym, ap, ◌∙◌}
use Rattle.std.specs.Prelude.{bytes_eq}
use Rattle.std.specs.Map.{lookup}
use Rattle.std.specs.Global.{Vec}
use Rattle.std.proofs.lemmas.List.{drop_more}
use Rattle.std.proofs.Math.Seq.{drop-length}
use Rattle.indexmap.specs.IndexMap.{insert_entry}
use Rattle.deftable.specs.Table.{value_of}
use Rattle.deftable.proofs.Tables.{same_text, over_first, swapped, two_names, value_of-[]}
use Rattle.output_make.specs.Lookup.{found_in}

abbrev same_key : Vec ℕ → Vec ℕ → Bool
same_key a b = bytes_eq a.items b.items

abbrev at : {T : Type 0} → List (Vec ℕ × T) → List ℕ → Option T
at es q = lookup (λ k. bytes_eq q k.items) es

at_inserted : {T : Type 0} (es : List (Vec ℕ × T)) (k : Vec ℕ) (v : T) (q : List ℕ)
    → at (insert_entry same_key es k v) q ≡ cond (bytes_eq q k.items) (Some v) (at es q)
at_inserted [] k v q = refl
at_inserted (e ∷ es) k v q =
    elim (bytes_eq k.items e.0.items) as (λ b. bytes_eq k.items e.0.items ≡ b
    → at (cond b ((e.0, v) ∷ es) (e ∷ insert_entry same_key es k v)) q
    ≡ cond (bytes_eq q k.items) (Some v) (cond (bytes_eq q e.0.items) (Some e.1) (at es q))) [
      | true ↦ λ is. over_first (bytes_eq q k.items) (bytes_eq q e.0.items) (Some v) (Some e.1) (at es q)
          (ap (bytes_eq q) (sym (same_text k.items e.0.items is)))
      | false ↦ λ apart.
          ap (cond (bytes_eq q e.0.items) (Some e.1)) (at_inserted es k v q)
          ∙ swapped (bytes_eq q k.items) (bytes_eq q e.0.items) (Some v) (Some e.1) (at es q)
          (two_names q k.items e.0.items apart)
    ] refl

mapped : {T : Type 0} (text : T → List ℕ) (b : Bool) (v : T) (o : Option T)
    → option_map text (cond b (Some v) o) ≡ cond b (Some (text v)) (option_map text o)
mapped text true v o = refl
mapped text false v o = refl

-- What is found under a name after a text is inserted
pub found_inserted : {T : Type 0} (text : T → List ℕ) (es : List (Vec ℕ × T)) (k : Vec ℕ) (v : T) (q : List ℕ)
    → found_in text (insert_entry (λ a b. bytes_eq a.items b.items) es k v) q
    ≡ cond (bytes_eq q k.items) (Some (text v)) (found_in text es q)
found_inserted text es k v q = ap (option_map text) (at_inserted es k v q) ∙ mapped text (bytes_eq q k.items) v (at es q)

-- ---- from the last template on

pub none_found : {T : Type 0} (text : T → List ℕ) (es : List (Vec ℕ × T)) (given : List (List ℕ × List ℕ)) → es ≡ []
    → (q : List ℕ) → found_in text es q ≡ value_of (drop (length given) given) q
none_found text es given is q =
    ap (λ l. found_in text l q) is ∙ sym (ap (λ l. value_of l q) (drop-length given) ∙ value_of-[] q)

found_more : {T : Type 0} (text : T → List ℕ) (old new : List (Vec ℕ × T)) (given : List (List ℕ × List ℕ)) (i : ℕ) (e : List ℕ × List ℕ) → i < length given
    → e ≡ get_or given i e
    → ((q : List ℕ) → found_in text old q ≡ value_of (drop (i + 1) given) q)
    → ((q : List ℕ) → found_in text new q ≡ cond (bytes_eq q e.0) (Some e.1) (found_in text old q))
    → (q : List ℕ) → found_in text new q ≡ value_of (drop i given) q
unfolding value_of
found_more text old new given i e lt is before put q =
    put q ∙ ap (cond (bytes_eq q e.0) (Some e.1)) (before q)
    ∙ sym (ap (λ l. value_of l q) (drop_more given i e lt ∙ ap (λ x. x ∷ drop (i + 1) given) (sym is)))

-- What is found after the last of the first i templates is added to those after it
pub found_back : {T : Type 0} (text : T → List ℕ) (old new : List (Vec ℕ × T)) (given : List (List ℕ × List ℕ)) (i : ℕ) (e : List ℕ × List ℕ) (key value : List ℕ)
    → 0 < i → i ≤ length given → e ≡ get_or given (i - 1) e → key ≡ e.0 → value ≡ e.1
    → ((q : List ℕ) → found_in text old q ≡ value_of (drop i given) q)
    → ((q : List ℕ) → found_in text new q ≡ cond (bytes_eq q key) (Some value) (found_in text old q))
    → (q : List ℕ) → found_in text new q ≡ value_of (drop (i - 1) given) q
found_back text old new given i e key value some within is named valued before put =
    let next : i - 1 + 1 ≡ i = omega arith in
    let lt : i - 1 < length given = omega arith in
    found_more text old new given (i - 1) e lt is (λ q. before q ∙ ap (λ k. value_of (drop k given) q) (sym next))
    (λ q. put q ∙ ap (λ k. cond (bytes_eq q k) (Some value) (found_in text old q)) named ∙ ap (λ v. cond (bytes_eq q e.0) (Some v) (found_in text old q)) valued)
