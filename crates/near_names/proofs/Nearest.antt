-- The name that is found is the nearest.
use Rattle.std.proofs.Common.{◌≡◌, ℕ, ◌+◌, ◌<◌, ◌≤◌, Bool, true, false, List, [], ◌∷◌, Option, Some, None, Result, Ok, Err, refl, sym, ap, subst, ◌∙◌, arith}
use Rattle.std.specs.Prelude.{nat_lt, All, IfOk, option_map, if◌then◌else◌}
use Rattle.std.proofs.lemmas.Bool.{ltb-true, ltb-false}
use Rattle.std.proofs.lemmas.List.Elements.{All-cons, All-nil}
use Rattle.near_names.specs.Near.{edits, few, IsFirst, IsNearest, nearest_from}

-- of names after the best one so far: none is nearer, or one is the first of the nearest
data Outcome (name : List ℕ) (room : ℕ) (best : Option (List ℕ)) (names : List (List ℕ)) : Option (List ℕ) → Type 0 where
  none_nearer : All (λ other. room ≤ edits name other) names → Outcome name room best names best
  one_nearer : {near : List ℕ} → IsFirst name room names near → Outcome name room best names (Some near)

taken : (name other : List ℕ) (room : ℕ) (best : Option (List ℕ)) (names : List (List ℕ)) (r : Option (List ℕ)) → edits name other < room
    → Outcome name (edits name other) (Some other) names r → Outcome name room best (other ∷ names) r
taken name other room best names _ less (none_nearer far) = one_nearer (record {
  before = [];
  after = names;
  one = refl;
  close = less;
  first = All-nil (λ x. edits name other < edits name x);
  fewest = far;
})
taken name other room best names _ less (one_nearer {near = near} h) = one_nearer (record {
  before = other ∷ h.before;
  after = h.after;
  one = ap (λ l. other ∷ l) h.one;
  close = let c = h.close in omega (arith, c, less);
  first = All-cons (λ x. edits name near < edits name x) other h.before h.close h.first;
  fewest = h.fewest;
})

passed_over : (name other : List ℕ) (room : ℕ) (best : Option (List ℕ)) (names : List (List ℕ)) (r : Option (List ℕ)) → room ≤ edits name other
    → Outcome name room best names r → Outcome name room best (other ∷ names) r
passed_over name other room best names _ le (none_nearer far) = none_nearer (All-cons (λ x. room ≤ edits name x) other names le far)
passed_over name other room best names _ le (one_nearer {near = near} h) = one_nearer (record {
  before = other ∷ h.before;
  after = h.after;
  one = ap (λ l. other ∷ l) h.one;
  close = h.close;
  first = All-cons (λ x. edits name near < edits name x) other h.before (let c = h.close in omega (arith, c, le)) h.first;
  fewest = h.fewest;
})

outcome_by : (name other : List ℕ) (names : List (List ℕ)) (room : ℕ) (best : Option (List ℕ)) (t : Bool) → nat_lt (edits name other) room ≡ t
    → Outcome name (edits name other) (Some other) names (nearest_from name (edits name other) (Some other) names)
    → Outcome name room best names (nearest_from name room best names)
    → Outcome name room best (other ∷ names) (if t then nearest_from name (edits name other) (Some other) names else nearest_from name room best names)
outcome_by name other names room best true e ifs elses = taken name other room best names _ (ltb-true (edits name other) room e) ifs
outcome_by name other names room best false e ifs elses = passed_over name other room best names _ (ltb-false (edits name other) room e) elses

outcome : (name : List ℕ) (names : List (List ℕ)) (room : ℕ) (best : Option (List ℕ)) → Outcome name room best names (nearest_from name room best names)
outcome name [] room best = none_nearer (All-nil (λ x. room ≤ edits name x))
outcome name (other ∷ names) room best =
    outcome_by name other names room best (nat_lt (edits name other) room) refl (outcome name names (edits name other) (Some other)) (outcome name names room best)

nearest_by : (name : List ℕ) (names : List (List ℕ)) (r : Option (List ℕ)) → Outcome name (few name + 1) None names r → IsNearest name names r
nearest_by name names _ (none_nearer far) = λ k d less. let h = far k d less in omega (arith, h)
nearest_by name names _ (one_nearer h) = h

pub is_nearest : (name : List ℕ) (names : List (List ℕ)) → IsNearest name names (nearest_from name (few name + 1) None names)
is_nearest name names = nearest_by name names (nearest_from name (few name + 1) None names) (outcome name names (few name + 1) None)

pub found_nearest : {X E : Type 0} (now : X → List ℕ) (name : List ℕ) (names : List (List ℕ)) (room : ℕ) (r : Result (Option X) E) → room ≡ few name + 1
    → IfOk r (λ found. option_map now found ≡ nearest_from name room None names) → IfOk r (λ found. IsNearest name names (option_map now found))
found_nearest now name names room (Ok x) is e = subst (IsNearest name names) (sym (e ∙ ap (λ n. nearest_from name n None names) is)) (is_nearest name names)
found_nearest now name names room (Err e) is h = tt
