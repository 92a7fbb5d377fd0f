-- What a table holds of names and descriptions.
use Rattle.std.proofs.Common.{◌≡◌, ℕ, Bool, true, false, List, [], ◌∷◌, Vec, Global, Bor, Option, Some, None, map, cond, refl, ap, ◌∙◌, sym, Ordering, Less, Equal, Greater}
use Rattle.std.specs.Prelude.{bytes_eq, is_some, option_map}
use Rattle.std.specs.Option.{option_copied}
use Rattle.std.specs.List.{AllByRecursion}
use Rattle.std.specs.List.Sorted.{IsStrictlySortedBy}
use Rattle.std.specs.BTreeMap.{insert_entry, is_at}
use Rattle.std.specs.Map.{lookup}
use Rattle.std.specs.Ordering.{nat_cmp, match_ordering, is_eq}
use Rattle.std.specs.Cmp.Lexicographic.{slice_cmp}
use Rattle.std.proofs.lemmas.Map.Text.{is_eq-slice_cmp}
use Rattle.deftable.specs.Table.{value_of}
use Rattle.header_template.specs.Table.{with_placed, AreInOrder, described, or_empty}

abbrev pub Text : Type 0
Text = List ℕ

abbrev pub Owned : Type 0
Owned = Vec ℕ Global × Vec ℕ Global

-- what an entry of the map holds
abbrev pub seen : Owned → Text × Text
seen e = (e.0.items, e.1.items)

abbrev pub held_order : Vec ℕ Global → Vec ℕ Global → Ordering
held_order a b = slice_cmp nat_cmp a.items b.items

seen_by : (o : Ordering) (a b c : List Owned) → map seen (match_ordering o a b c) ≡ match_ordering o (map seen a) (map seen b) (map seen c)
seen_by Less a b c = refl
seen_by Equal a b c = refl
seen_by Greater a b c = refl

-- an entry is put in its place by what it holds
pub placed_seen : (es : List Owned) (name description : Vec ℕ Global) → map seen (insert_entry held_order es name description) ≡ with_placed (map seen es) (name.items, description.items)
placed_seen [] name description = refl
placed_seen (e ∷ es) name description =
    seen_by (held_order name e.0) ((name, description) ∷ e ∷ es) ((e.0, description) ∷ es) (e ∷ insert_entry held_order es name description)
    ∙ ap (λ rest. match_ordering (held_order name e.0) ((name.items, description.items) ∷ seen e ∷ map seen es) ((e.0.items, description.items) ∷ map seen es) (seen e ∷ rest))
    (placed_seen es name description)

pub placed : (old new : List Owned) (key value : Vec ℕ Global) (name description : Text) → new ≡ insert_entry held_order old key value → key.items ≡ name → value.items ≡ description
    → map seen new ≡ with_placed (map seen old) (name, description)
placed old new key value name description put is has =
    ap (map seen) put ∙ placed_seen old key value ∙ ap (λ n. with_placed (map seen old) (n, value.items)) is ∙ ap (λ d. with_placed (map seen old) (name, d)) has

below_seen : (name : Vec ℕ Global) (es : List Owned) → AllByRecursion (λ n. held_order name n ≡ Less) (map (λ e. e.0) es)
    → AllByRecursion (λ n. slice_cmp nat_cmp name.items n ≡ Less) (map (λ e. e.0) (map seen es))
below_seen name [] all = all
below_seen name (e ∷ es) all = (all.0, below_seen name es all.1)

-- if the keys are in order, so are the names
pub in_order_seen : (es : List Owned) → IsStrictlySortedBy held_order (map (λ e. e.0) es) → AreInOrder (map seen es)
unfolding IsStrictlySortedBy
in_order_seen [] sorted = sorted
in_order_seen (e ∷ es) sorted = (below_seen e.0 es sorted.0, in_order_seen es sorted.1)

pub none_in_order : (es : List Owned) → es ≡ [] → AreInOrder (map seen es)
unfolding IsStrictlySortedBy
none_in_order [] is = tt
none_in_order (e ∷ es) is = absurd cc

-- what a query finds
abbrev pub found_in : List Owned → Text → Option (Vec ℕ Global)
found_in es q = lookup (is_at (λ k. slice_cmp nat_cmp q k.items)) es

kept : (b : Bool) (x : Vec ℕ Global) (o : Option (Vec ℕ Global)) → option_map (λ v. v.items) (cond b (Some x) o) ≡ cond b (Some x.items) (option_map (λ v. v.items) o)
kept true x o = refl
kept false x o = refl

pub value_seen : (es : List Owned) (q : Text) → option_map (λ v. v.items) (found_in es q) ≡ value_of (map seen es) q
unfolding value_of
value_seen [] q = refl
value_seen (e ∷ es) q =
    kept (is_eq (slice_cmp nat_cmp q e.0.items)) e.1 (found_in es q)
    ∙ ap (λ b. cond b (Some e.1.items) (option_map (λ v. v.items) (found_in es q))) (is_eq-slice_cmp q e.0.items)
    ∙ ap (λ o. cond (bytes_eq q e.0.items) (Some e.1.items) o) (value_seen es q)

some_mapped : (o : Option (Vec ℕ Global)) → is_some o ≡ is_some (option_map (λ v. v.items) o)
some_mapped None = refl
some_mapped (Some v) = refl

pub has_seen : (es : List Owned) (q : Text) → is_some (found_in es q) ≡ is_some (value_of (map seen es) q)
has_seen es q = some_mapped (found_in es q) ∙ ap is_some (value_seen es q)

copied_is : (o : Option (Bor (Vec ℕ Global))) (d : Bor (Vec ℕ Global)) → o ≡ Some d → option_copied o ≡ Some d.now
copied_is o d is = ap option_copied is

some_is : (o : Option (Vec ℕ Global)) (v : Vec ℕ Global) (known : Option Text) → o ≡ Some v → option_map (λ x. x.items) o ≡ known → known ≡ Some v.items
some_is o v known is mapped = sym mapped ∙ ap (option_map (λ x. x.items)) is

pub found_description : (es : List Owned) (q : Text) (o : Option (Bor (Vec ℕ Global))) (d : Bor (Vec ℕ Global)) (slice : Text) → option_copied o ≡ found_in es q → o ≡ Some d → slice ≡ d.now.items
    → slice ≡ described (map seen es) q
found_description es q o d slice got is lent =
    let found : found_in es q ≡ Some d.now = sym got ∙ copied_is o d is in
    lent ∙ sym (ap or_empty (some_is (found_in es q) d.now (value_of (map seen es) q) found (value_seen es q)))

pub no_description : (es : List Owned) (q : Text) (o : Option (Bor (Vec ℕ Global))) → option_copied o ≡ found_in es q → o ≡ None → [] ≡ described (map seen es) q
no_description es q o got is =
    let lost : found_in es q ≡ None = sym got ∙ ap option_copied is in
    let none : value_of (map seen es) q ≡ None = sym (value_seen es q) ∙ ap (option_map (λ x. x.items)) lost in
    sym (ap or_empty none)
