-- Precious variables, by their marks: if these are as before, so is what the check of precious
-- variables finds.
use Rattle.std.proofs.Common.{◌≡◌, ℕ, ◌+◌, Bool, true, false, cond, List, [], ◌∷◌, ◌++◌, map, Option, Some, None, Result, Ok, Err, refl, sym, ap, ◌∙◌, subst}
use Rattle.std.specs.Prelude.{bytes_eq, fold, is_some, option_to_list, ◌||◌, unwrap_or, if◌then◌else◌}
use Rattle.std.specs.List.{AllByRecursion, flat_map}
use Rattle.std.proofs.lemmas.Slice.Eq.{bytes_eq-Decides}
use Rattle.cachefile.specs.Cache.{vars_after}
use Rattle.cachefile.specs.Line.{Setting}
use Rattle.cachefile.specs.Name.{is_mark}
use Rattle.cachefile.proofs.Orders.{Entries}
use Rattle.deftable.specs.Table.{value_of, with_entry, HasDistinctNames}
use Rattle.deftable.proofs.Tables.{value_of-with_entry, value_of-with_entry-same}
use Rattle.deftable.specs.declared.note.Note.{Note}
use Rattle.options.specs.Opening.{with_variable, set_name, value_name, marks_one, marks_of, with_marks, set_mark, unmarked, finished}
use Rattle.options.specs.Precious.{old_value, value_before, change_of, restored, restored_variable, restored_from, blanks_note, checked}
use Rattle.options.specs.Reading.{◌>>=◌}
use Rattle.options.specs.declared.fault.PreciousFault.{PreciousFault}
use Rattle.options.proofs.Checks.{found, marks_stay}
use Rattle.engine_restarts.proofs.Distinct.{fold_distinct}

-- ---- marks

pub is_mark-set_name : (name : List ℕ) → is_mark (set_name name) ≡ true
unfolding is_mark
is_mark-set_name name = refl

pub is_mark-value_name : (name : List ℕ) → is_mark (value_name name) ≡ true
unfolding is_mark
is_mark-value_name name = refl

abbrev IsThere : Entries → List ℕ → Type 0
IsThere es q = is_some (value_of es q) ≡ true

stays : (es : Entries) (k v q : List ℕ) → IsThere es q → IsThere (with_entry es k v) q
stays es k v q h = ap is_some (value_of-with_entry es k v q) ∙ by (bytes_eq q k) (value_of es q) h
  where
    by : (b : Bool) (o : Option (List ℕ)) → is_some o ≡ true → is_some (cond b (Some v) o) ≡ true
    by true o e = refl
    by false o e = e

comes : (es : Entries) (k v : List ℕ) → IsThere (with_entry es k v) k
comes es k v = ap is_some (value_of-with_entry-same es k v)

-- Both marks of a variable are set.
abbrev pub IsMarked : Entries → List ℕ → Type 0
IsMarked es name = IsThere es (set_name name) × IsThere es (value_name name)

fold_there : (es base : Entries) (q : List ℕ) → IsThere base q → IsThere (fold with_variable base es) q
fold_there [] base q h = h
fold_there (e ∷ es) base q h = fold_there es (with_entry base e.0 e.1) q (stays base e.0 e.1 q h)

all_marked : (names : List (List ℕ)) (vars base : Entries) → AllByRecursion (IsMarked (fold with_variable base (flat_map (marks_of vars) names))) names
unfolding marks_of
all_marked [] vars base = tt
all_marked (name ∷ more) vars base =
    let set = set_mark (value_of vars name) in
    let value = unwrap_or (value_of vars name) [] in
    let first = with_entry base (set_name name) set in
    let next = with_entry first (value_name name) value in (
      (
        fold_there (flat_map (marks_of vars) more) next (set_name name) (stays first (value_name name) value (set_name name) (comes base (set_name name) set)),
        fold_there (flat_map (marks_of vars) more) next (value_name name) (comes first (value_name name) value),
      ),
      all_marked more vars next,
    )

pub finished_marked : (precious : List (List ℕ)) (vars : Entries) → AllByRecursion (IsMarked (finished precious vars)) precious
unfolding finished with_marks
finished_marked precious vars = all_marked precious (unmarked vars) (unmarked vars)

-- ---- names of marks

-- Both marks of a variable are marks of one of these.
abbrev pub AreOne : List (List ℕ) → List ℕ → Type 0
AreOne all name = (marks_one all (set_name name) ≡ true) × (marks_one all (value_name name) ≡ true)

either_second : (a b c : Bool) → b ≡ true → ((a || b) || c) ≡ true
either_second true b c h = refl
either_second false true c h = refl
either_second false false c h = cc

either_last : (a b : Bool) → b ≡ true → (a || b) ≡ true
either_last true b h = refl
either_last false b h = h

ones : (all names : List (List ℕ)) → ((q : List ℕ) → marks_one names q ≡ true → marks_one all q ≡ true) → AllByRecursion (AreOne all) names
unfolding marks_one
ones all [] w = tt
ones all (name ∷ more) w = (
  (
    w (set_name name) (ap (λ b. (b || bytes_eq (set_name name) (value_name name)) || marks_one more (set_name name)) ((bytes_eq-Decides (set_name name) (set_name name)).1 refl)),
    w (value_name name) (either_second (bytes_eq (value_name name) (set_name name)) _ (marks_one more (value_name name)) ((bytes_eq-Decides (value_name name) (value_name name)).1 refl)),
  ),
  ones all more (λ q h. w q (either_last (bytes_eq q (set_name name) || bytes_eq q (value_name name)) (marks_one more q) h)),
)

pub all_ones : (all : List (List ℕ)) → AllByRecursion (AreOne all) all
all_ones all = ones all all (λ q h. h)

-- ---- what the check finds

-- The marks of a variable have the same values.
abbrev pub SameMarks : Entries → Entries → List ℕ → Type 0
SameMarks xs ys name = (value_of xs (set_name name) ≡ value_of ys (set_name name)) × (value_of xs (value_name name) ≡ value_of ys (value_name name))

same_old : (xs ys : Entries) (name : List ℕ) → SameMarks xs ys name → old_value xs name ≡ old_value ys name
unfolding old_value
same_old xs ys name (e, h) =
    let by : Option (List ℕ) → Option (List ℕ) → Option (List ℕ) = λ o p. if bytes_eq (unwrap_or o []) [] then None else Some (unwrap_or p []) in
    ap (λ o. by o (value_of xs (value_name name))) e ∙ ap (by (value_of ys (set_name name))) h

same_restored : (all : List (List ℕ)) (place : ℕ) (vars xs ys : Entries) (names : List (List ℕ)) → AllByRecursion (SameMarks xs ys) names → restored_from all place vars xs names ≡ restored_from all place vars ys names
unfolding restored_from restored_variable
same_restored all place vars xs ys [] h = refl
same_restored all place vars xs ys (name ∷ more) h =
    let by : Option (List ℕ) → Result Entries PreciousFault → Result Entries PreciousFault =
    λ o r. (restored place o (value_before vars name) >>= λ old. Ok (change_of all name old)) >>= λ one. r >>= λ rest. Ok (option_to_list one ++ rest) in
    ap (λ o. by o (restored_from all (place + 1) vars xs more)) (same_old xs ys name h.0) ∙ ap (by (old_value ys name)) (same_restored all (place + 1) vars xs ys more h.1)

pub same_checked : (precious : List (List ℕ)) (vars : Entries) (one other : List Setting) → AllByRecursion (SameMarks (vars_after one vars) (vars_after other vars)) precious
    → checked precious vars one ≡ checked precious vars other
unfolding checked
same_checked precious vars one other h =
    let by : Result Entries PreciousFault → Result (Entries × List Note) PreciousFault = λ r. r >>= λ changes. Ok (fold with_variable vars changes, map (λ change. blanks_note change.0) changes) in
    ap by (same_restored precious 1 vars (vars_after one vars) (vars_after other vars) precious h)

-- ---- what the check leaves

-- The variables after the check: marks keep their values, and no name has two entries.
pub record IsLeft (precious : List (List ℕ)) (vars after : Entries) : Type 0 where
  pub value : (q : List ℕ) → marks_one precious q ≡ true → value_of after q ≡ value_of vars q
  pub distinct : HasDistinctNames vars → HasDistinctNames after

left_by : (precious : List (List ℕ)) (vars : Entries) (cache : List Setting) (r : Result Entries PreciousFault) (after : Entries × List Note)
    → restored_from precious 1 vars (vars_after cache vars) precious ≡ r
    → (r >>= λ changes. Ok (fold with_variable vars changes, map (λ change. blanks_note change.0) changes)) ≡ Ok after → IsLeft precious vars after.0
left_by precious vars cache (Err f) after h e = cc
left_by precious vars cache (Ok changes) after h e =
    let is : after.0 ≡ fold with_variable vars changes = cc in
    let way = found precious vars (vars_after cache vars) 1 precious changes h in
    record {
      value = λ q m. ap (λ es. value_of es q) is ∙ marks_stay precious vars (vars_after cache vars) way q m;
      distinct = λ d. subst HasDistinctNames (sym is) (fold_distinct changes vars d);
    }

pub checked_leaves : (precious : List (List ℕ)) (vars : Entries) (cache : List Setting) (after : Entries × List Note) → checked precious vars cache ≡ Ok after → IsLeft precious vars after.0
unfolding checked
checked_leaves precious vars cache after e = left_by precious vars cache (restored_from precious 1 vars (vars_after cache vars) precious) after refl e
