-- What is known of lists of statements, and of where statements begin.
use Rattle.std.proofs.Common.{◌≡◌, ℕ, ◌<◌, List, [], ◌∷◌, ◌++◌, length, get_or, map, sym, subst, refl, Result, Ok, Err, OnOk}
use Rattle.std.specs.Prelude.{Contains, All}
use Rattle.std.specs.List.Sorted.{IsPermutation}
use Rattle.std.proofs.lemmas.List.Elements.{All-nil, All-push, All-get_or, Contains-get_or}
use Rattle.std.proofs.lemmas.List.Sorted.{All-permutation}
use Rattle.ac_calls.specs.Calls.{calls_in, macro_call_of}
use Rattle.ac_calls.specs.declared.call.CallAt.{CallAt}
use Rattle.port_places.specs.Outside.{IsOutside}
use Rattle.port_statements.specs.Statements.{MayBegin}

pub in_list : {A : Type 0} (xs : List A) (i : ℕ) (x : A) → i < length xs → x ≡ get_or xs i x → Contains xs x
in_list xs i x lt here = subst (Contains xs) (sym here) (Contains-get_or xs i x lt)

-- ---- what holds of each element of a list

pub of_none : {A : Type 0} (P : A → Type 0) (xs : List A) → xs ≡ [] → All P xs
of_none P xs none = subst (All P) (sym none) (All-nil P)

pub pushed : {A : Type 0} (P : A → Type 0) (xs ys : List A) (x : A) → All P xs → P x → ys ≡ xs ++ x ∷ [] → All P ys
pushed P xs ys x all one is = subst (All P) (sym is) (All-push P xs x all one)

pub in_order : {A T E : Type 0} (P : A → Type 0) (r : Result T E) (xs ys : List A) → All P xs → IsPermutation xs ys → OnOk r (All P ys)
in_order P (Ok v) xs ys all same = All-permutation P xs ys same all
in_order P (Err e) xs ys all same = tt

-- ---- where a statement begins

pub begins : (text : List ℕ) (calls : List CallAt) (at start : ℕ) → map macro_call_of calls ≡ calls_in text → IsOutside text calls at → at ≡ start → MayBegin text start
begins text calls at start are outside is = subst (MayBegin text) is (record { calls = calls; are = are; outside = outside })

pub pushed_begun : (text : List ℕ) (calls : List CallAt) (at : ℕ) (xs ys : List ℕ) → map macro_call_of calls ≡ calls_in text → IsOutside text calls at → All (MayBegin text) xs → ys ≡ xs ++ at ∷ [] → All (MayBegin text) ys
pushed_begun text calls at xs ys are outside all is = pushed (MayBegin text) xs ys at all (begins text calls at at are outside refl) is

pub found_at : (text : List ℕ) (offsets : List ℕ) (i at : ℕ) → All (MayBegin text) offsets → i < length offsets → get_or offsets i 0 ≡ at → MayBegin text at
found_at text offsets i at all lt is = subst (MayBegin text) is (All-get_or (MayBegin text) offsets i 0 lt all)
