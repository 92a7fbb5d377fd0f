-- Names of variables: the longest one at the front of a text.
use Rattle.std.proofs.Common.{◌≡◌, ℕ, suc, ◌+◌, ◌<◌, Bool, true, false, cond, List, [], ◌∷◌, ◌++◌, length, take, drop, refl, arith}
use Rattle.std.specs.List.{prefix_len, list_all}
use Rattle.std.proofs.lemmas.Bool.{and_parts}
use Rattle.deftable.specs.ShellName.{starts_name, continues_name, IsShellName}
use Rattle.shellword.specs.Text.{name_len, begins}

-- ---- a name that no byte of a name follows is the longest one

prefix_of : (test : ℕ → Bool) (front rest : List ℕ) → list_all test front ≡ true → begins test rest ≡ false → prefix_len test (front ++ rest) ≡ length front
prefix_of test [] [] all stops = refl
prefix_of test [] (b ∷ bs) all stops = rw stops refl
prefix_of test (b ∷ bs) rest all stops =
    let both = and_parts (test b) (list_all test bs) all in
    rw (both.0, prefix_of test bs rest both.1 stops) (omega arith)

pub name_len_is : (name rest : List ℕ) → IsShellName name → begins continues_name rest ≡ false → name_len (name ++ rest) ≡ length name
name_len_is [] rest form stops = absurd cc
name_len_is (b ∷ bs) rest form stops =
    let both = and_parts (starts_name b) (list_all continues_name bs) form in
    rw (both.0, prefix_of continues_name bs rest both.1 stops) (omega arith)

pub some_name : (name : List ℕ) → IsShellName name → 0 < length name
some_name [] form = absurd cc
some_name (b ∷ bs) form = omega arith

-- ---- the longest name is one, and no byte of a name follows it

prefix_all : (test : ℕ → Bool) (text : List ℕ) → list_all test (take (prefix_len test text) text) ≡ true
prefix_all test [] = refl
prefix_all test (b ∷ bs) = by_test (test b) refl (prefix_all test bs) where
  by_test : (t : Bool) → test b ≡ t → list_all test (take (prefix_len test bs) bs) ≡ true → list_all test (take (cond t (1 + prefix_len test bs) 0) (b ∷ bs)) ≡ true
  by_test true e rest = let one : 1 + prefix_len test bs ≡ suc (prefix_len test bs) = omega arith in rw one (rw (e, rest) refl)
  by_test false e rest = refl

prefix_stops : (test : ℕ → Bool) (text : List ℕ) → begins test (drop (prefix_len test text) text) ≡ false
prefix_stops test [] = refl
prefix_stops test (b ∷ bs) = by_test (test b) refl (prefix_stops test bs) where
  by_test : (t : Bool) → test b ≡ t → begins test (drop (prefix_len test bs) bs) ≡ false → begins test (drop (cond t (1 + prefix_len test bs) 0) (b ∷ bs)) ≡ false
  by_test true e rest = let one : 1 + prefix_len test bs ≡ suc (prefix_len test bs) = omega arith in rw one rest
  by_test false e rest = e

pub name_at : (text : List ℕ) → 0 < name_len text → IsShellName (take (name_len text) text) × (begins continues_name (drop (name_len text) text) ≡ false)
name_at [] some = absurd (omega arith)
name_at (b ∷ bs) some = by_start (starts_name b) refl some where
  by_start : (s : Bool) → starts_name b ≡ s → 0 < cond s (prefix_len continues_name bs + 1) 0
      → IsShellName (take (cond s (prefix_len continues_name bs + 1) 0) (b ∷ bs)) × (begins continues_name (drop (cond s (prefix_len continues_name bs + 1) 0) (b ∷ bs)) ≡ false)
  by_start true e some =
      let one : prefix_len continues_name bs + 1 ≡ suc (prefix_len continues_name bs) = omega arith in
      rw one (rw (e, prefix_all continues_name bs) refl, prefix_stops continues_name bs)
  by_start false e some = absurd (omega arith)
