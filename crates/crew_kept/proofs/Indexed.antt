-- The places of records, by their numbers.
use Rattle.std.proofs.Common.{◌≡◌, ℕ, ◌+◌, ◌<◌, ◌==◌, Bool, true, false, cond, List, [], ◌∷◌, length, drop, length-drop, get_or, refl, sym, ap, ◌∙◌, subst, arith}
use Rattle.std.specs.Prelude.{Option, Some, None, unwrap_or}
use Rattle.std.proofs.lemmas.List.{drop_all, drop_more, get_or-drop}
use Rattle.std.proofs.lemmas.Bool.Decides.{nat_tests}
use Rattle.std.specs.Map.{lookup}
use Rattle.std.specs.BTreeMap as tree
use Rattle.std.specs.BTreeMap.{BTreeMap, Updates}
use Rattle.std.specs.Ordering.{is_eq, nat_cmp}
use Rattle.answers_text.specs.declared.record.Record.{Record}
use Rattle.crew_kept.specs.Index.{IsIndex, IsIndexFrom, place_of}
use Rattle.crew_kept.specs.Records.{first_of}

is_same : (k n : ℕ) → is_eq (nat_cmp k n) ≡ (k == n)
is_same k n = grind (arith, nat_tests)

pub one_more : (base : ℕ) (records : List Record) (it : Record) (old new : BTreeMap ℕ ℕ) → base < length records → it ≡ get_or records base it
    → Updates nat_cmp old new it.number (Some base) → IsIndexFrom (base + 1) (drop (base + 1) records) old → IsIndexFrom base (drop base records) new
one_more base records it old new low is updates known = λ n.
    updates.0 n ∙ ap (λ g. cond (is_eq (nat_cmp it.number n)) (Some base) g) (known n)
    ∙ ap (λ t. cond t (Some base) (place_of n (base + 1) (drop (base + 1) records))) (is_same it.number n)
    ∙ ap (place_of n base) (sym (drop_more records base it low ∙ ap (λ r. r ∷ drop (base + 1) records) (sym is)))

pub none_yet : (records : List Record) (places : BTreeMap ℕ ℕ) → places.entries ≡ [] → IsIndexFrom (length records) (drop (length records) records) places
none_yet records places none = λ n.
    ap (lookup (tree.is_at (nat_cmp n))) none
    ∙ ap (place_of n (length records)) (sym (drop_all (length records) records (omega arith)))

record IsFound (records : List Record) (number place : ℕ) (rest : List Record) : Type 0 where
  low : place < length records
  found : (it : Record) → it ≡ get_or records place it → first_of number rest ≡ Some it

some_is : {A : Type 0} (a b : A) → Some a ≡ Some b → a ≡ b
some_is a b is = ap (λ o. unwrap_or o a) is

front_is : (r : Record) (rs : List Record) (base : ℕ) (records : List Record) → drop base records ≡ r ∷ rs → (it : Record) → r ≡ get_or records base it
front_is r rs base records is it = ap (λ l. get_or l 0 it) (sym is) ∙ get_or-drop base records 0 it ∙ ap (λ n. get_or records n it) (add_zero base)
  where
    add_zero : (n : ℕ) → n + 0 ≡ n
    add_zero n = omega arith

front_low : (r : Record) (rs : List Record) (base : ℕ) (records : List Record) → drop base records ≡ r ∷ rs → base < length records
front_low r rs base records is =
    let long : length (drop base records) ≡ length (r ∷ rs) = ap length is in
    omega (arith, long, length-drop base records)

next_is : (r : Record) (rs : List Record) (base : ℕ) (records : List Record) → drop base records ≡ r ∷ rs → drop (base + 1) records ≡ rs
next_is r rs base records is =
    ap (drop 1) (sym (sym is ∙ drop_more records base r (front_low r rs base records is)))

found_here : (t : Bool) (number base place : ℕ) (records : List Record) (r : Record) (rs : List Record) → drop base records ≡ r ∷ rs → cond t (Some base) (place_of number (base + 1) rs) ≡ Some place
    → (place_of number (base + 1) rs ≡ Some place → IsFound records number place rs)
    → (low : place < length records) × ((it : Record) → it ≡ get_or records place it → cond t (Some r) (first_of number rs) ≡ Some it)
found_here true number base place records r rs is at later =
    let here : base ≡ place = some_is base place at in (
      subst (λ p. p < length records) here (front_low r rs base records is),
      λ it it_is. ap Some (front_is r rs base records is it ∙ ap (λ p. get_or records p it) here ∙ sym it_is),
    )
found_here false number base place records r rs is at later = let rest = later at in (rest.low, rest.found)

found_in : (number base place : ℕ) (records rest : List Record) → drop base records ≡ rest → place_of number base rest ≡ Some place → IsFound records number place rest
found_in number base place records [] is at = absurd (cc)
found_in number base place records (r ∷ rs) is at =
    let here = found_here (r.number == number) number base place records r rs is at (found_in number (base + 1) place records rs (next_is r rs base records is)) in
    record { low = here.0; found = here.1 }

pub found_at : (records : List Record) (places : BTreeMap ℕ ℕ) (number place : ℕ) (it : Record) → IsIndex records places → tree.get nat_cmp places number ≡ Some place → it ≡ get_or records place it
    → first_of number records ≡ Some it
found_at records places number place it index at is = (found_in number 0 place records records refl (sym (index number) ∙ at)).found it is

pub low_at : (records : List Record) (places : BTreeMap ℕ ℕ) (number place : ℕ) → IsIndex records places → tree.get nat_cmp places number ≡ Some place → place < length records
low_at records places number place index at = (found_in number 0 place records records refl (sym (index number) ∙ at)).low

none_here : (t : Bool) (base : ℕ) (r : Record) (place : Option ℕ) (first : Option Record) → cond t (Some base) place ≡ None → (place ≡ None → first ≡ None) → cond t (Some r) first ≡ None
none_here true base r place first is later = absurd (cc)
none_here false base r place first is later = later is

none_in : (number base : ℕ) (records : List Record) → place_of number base records ≡ None → first_of number records ≡ None
none_in number base [] is = refl
none_in number base (r ∷ rs) is = none_here (r.number == number) base r (place_of number (base + 1) rs) (first_of number rs) is (none_in number (base + 1) rs)

pub none_at : (records : List Record) (places : BTreeMap ℕ ℕ) (number : ℕ) → IsIndex records places → tree.get nat_cmp places number ≡ None → first_of number records ≡ None
none_at records places number index at = none_in number 0 records (sym (index number) ∙ at)
