-- Entries whose names and values are lent, in the order of their names.
use Rattle.std.proofs.Common.{◌≡◌, ℕ, List, [], ◌∷◌, Bor, map, refl, ap, ◌∙◌, Ordering, Less, Equal, Greater}
use Rattle.std.specs.List.{AllByRecursion}
use Rattle.std.specs.List.Sorted.{IsStrictlySortedBy}
use Rattle.std.specs.BTreeMap.{insert_entry}
use Rattle.std.specs.Ordering.{nat_cmp, match_ordering}
use Rattle.std.specs.Cmp.Lexicographic.{slice_cmp}
use Rattle.cachefile.specs.Text.{with_placed, AreInOrder}

abbrev pub Text : Type 0
Text = List ℕ

abbrev pub Lent : Type 0
Lent = Bor Text × Bor Text

-- what is lent
abbrev pub seen : Lent → Text × Text
seen e = (e.0.now, e.1.now)

abbrev pub lent_order : Bor Text → Bor Text → Ordering
lent_order a b = slice_cmp nat_cmp a.now b.now

seen_by : (o : Ordering) (a b c : List Lent) → map seen (match_ordering o a b c) ≡ match_ordering o (map seen a) (map seen b) (map seen c)
seen_by Less a b c = refl
seen_by Equal a b c = refl
seen_by Greater a b c = refl

-- an entry is put in its place by what is lent
pub placed_seen : (es : List Lent) (name value : Bor Text) → map seen (insert_entry lent_order es name value) ≡ with_placed (map seen es) (name.now, value.now)
placed_seen [] name value = refl
placed_seen (e ∷ es) name value =
    seen_by (lent_order name e.0) ((name, value) ∷ e ∷ es) ((e.0, value) ∷ es) (e ∷ insert_entry lent_order es name value)
    ∙ ap (λ rest. match_ordering (lent_order name e.0) ((name.now, value.now) ∷ seen e ∷ map seen es) ((e.0.now, value.now) ∷ map seen es) (seen e ∷ rest))
    (placed_seen es name value)

below_seen : (name : Bor Text) (es : List Lent) → AllByRecursion (λ n. lent_order name n ≡ Less) (map (λ e. e.0) es)
    → AllByRecursion (λ n. slice_cmp nat_cmp name.now n ≡ Less) (map (λ e. e.0) (map seen es))
below_seen name [] all = all
below_seen name (e ∷ es) all = (all.0, below_seen name es all.1)

-- if the keys are in order, so are the names that they lend
pub in_order_seen : (es : List Lent) → IsStrictlySortedBy lent_order (map (λ e. e.0) es) → AreInOrder (map seen es)
unfolding IsStrictlySortedBy
in_order_seen [] sorted = sorted
in_order_seen (e ∷ es) sorted = (below_seen e.0 es sorted.0, in_order_seen es sorted.1)

pub none_in_order : (es : List Lent) → es ≡ [] → AreInOrder (map seen es)
unfolding IsStrictlySortedBy
none_in_order [] is = tt
none_in_order (e ∷ es) is = absurd cc
