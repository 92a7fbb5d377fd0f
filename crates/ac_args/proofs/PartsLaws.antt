-- The parts of a text between commas outside parentheses are those of the relation, and no others.
use Rattle.std.proofs.Common.{◌≡◌, ℕ, zero, suc, ◌<◌, Bool, true, false, cond, List, [], ◌∷◌, ◌++◌, length, take, slice_index, refl, sym, ap, subst, ◌∙◌, arith}
use Rattle.std.specs.Prelude.{fold}
use Rattle.std.specs.List.{onto_first}
use Rattle.std.proofs.lemmas.Bool.{cond-true, cond-false}
use Rattle.std.proofs.lemmas.Bool.Decides.{nat_tests}
use Rattle.ac_args.specs.Commas.{depth_after, AreParts, last, more, is_free_comma, parts_from, comma_parts}

-- each comma is inside parentheses, if this many are open before the text
abbrev Covered : ℕ → List ℕ → Type 0
Covered depth text = (i : ℕ) → i < length text → slice_index text i ≡ 44 → 0 < fold depth_after depth (take i text)

-- the parts of a text, if this many parentheses are open before it
data From : ℕ → List ℕ → List (List ℕ) → Type 0 where
  end : {depth : ℕ} {text : List ℕ} → Covered depth text → From depth text (text ∷ [])
  cut : {depth : ℕ} (part rest : List ℕ) {parts : List (List ℕ)} → Covered depth part → fold depth_after depth part ≡ 0 → AreParts rest parts → From depth (part ++ 44 ∷ rest) (part ∷ parts)

from_zero : {text : List ℕ} {parts : List (List ℕ)} → From 0 text parts → AreParts text parts
from_zero parts = of _ _ _ parts refl
  where
    of : (depth : ℕ) (text : List ℕ) (parts : List (List ℕ)) → From depth text parts → depth ≡ 0 → AreParts text parts
    of depth text parts (end c) e = last (subst (λ d. Covered d text) e c)
    of depth text parts (cut part rest c z r) e =
        more part rest (subst (λ d. Covered d part) e c) (subst (λ d. fold depth_after d part ≡ 0) e z) r

not_free : (depth b : ℕ) → is_free_comma depth b ≡ false → b ≡ 44 → 0 < depth
not_free depth b held e = grind (arith, nat_tests)

free : (depth b : ℕ) → is_free_comma depth b ≡ true → (depth ≡ 0) × (b ≡ 44)
free depth b h = (grind (arith, nat_tests), grind (arith, nat_tests))

is_not_free : (depth b : ℕ) → (b ≡ 44 → 0 < depth) → is_free_comma depth b ≡ false
is_not_free depth b h = grind (arith, nat_tests)

covered_cons : (depth b : ℕ) (text : List ℕ) → is_free_comma depth b ≡ false → Covered (depth_after depth b) text → Covered depth (b ∷ text)
covered_cons depth b text held c zero lt e = not_free depth b held e
covered_cons depth b text held c (suc i) lt e = c i (omega arith) e

covered_tail : (depth b : ℕ) (text : List ℕ) → Covered depth (b ∷ text) → Covered (depth_after depth b) text
covered_tail depth b text c i lt e = c (suc i) (omega arith) e

covered_nil : (depth : ℕ) → Covered depth []
covered_nil depth i lt e = absurd (omega arith)

-- one more byte in front
from_cons : (depth b : ℕ) (below : ℕ) (text : List ℕ) (parts : List (List ℕ)) → is_free_comma depth b ≡ false → below ≡ depth_after depth b → From below text parts
    → From depth (b ∷ text) (onto_first b parts)
from_cons depth b below text parts held is (end c) = end (covered_cons depth b text held (subst (λ d. Covered d text) is c))
from_cons depth b below text parts held is (cut part rest c z r) =
    cut (b ∷ part) rest (covered_cons depth b part held (subst (λ d. Covered d part) is c)) (subst (λ d. fold depth_after d part ≡ 0) is z) r

-- ---- the parts that the function gives

one_more : (depth b : ℕ) (text : List ℕ) (c : Bool) → is_free_comma depth b ≡ c → From 0 text (parts_from 0 text) → From (depth_after depth b) text (parts_from (depth_after depth b) text)
    → From depth (b ∷ text) (cond c ([] ∷ parts_from 0 text) (onto_first b (parts_from (depth_after depth b) text)))
one_more depth b text true is after below =
    let p = free depth b is in
    subst (λ x. From depth (x ∷ text) ([] ∷ parts_from 0 text)) (sym p.1) (cut [] text (covered_nil depth) p.0 (from_zero after))
one_more depth b text false is after below = from_cons depth b (depth_after depth b) text (parts_from (depth_after depth b) text) is refl below

parts_are : (depth : ℕ) (text : List ℕ) → From depth text (parts_from depth text)
unfolding parts_from
parts_are depth [] = end (covered_nil depth)
parts_are depth (b ∷ bs) = one_more depth b bs (is_free_comma depth b) refl (parts_are 0 bs) (parts_are (depth_after depth b) bs)

pub parts_sound : (text : List ℕ) (parts : List (List ℕ)) → comma_parts text ≡ parts → AreParts text parts
parts_sound text parts e = subst (λ ps. AreParts text ps) e (from_zero (parts_are 0 text))

-- ---- no others

is_free : (depth : ℕ) → depth ≡ 0 → is_free_comma depth 44 ≡ true
is_free depth z = ap (λ d. is_free_comma d 44) z

whole : (depth : ℕ) (text : List ℕ) → Covered depth text → parts_from depth text ≡ text ∷ []
unfolding parts_from
whole depth [] c = refl
whole depth (b ∷ bs) c =
    cond-false _ _ _ (is_not_free depth b (λ e. c 0 (omega arith) e)) ∙ ap (onto_first b) (whole (depth_after depth b) bs (covered_tail depth b bs c))

first : (depth : ℕ) (part rest : List ℕ) → Covered depth part → fold depth_after depth part ≡ 0 → parts_from depth (part ++ 44 ∷ rest) ≡ part ∷ parts_from 0 rest
unfolding parts_from
first depth [] rest c z = cond-true _ _ _ (is_free depth z)
first depth (b ∷ bs) rest c z =
    cond-false _ _ _ (is_not_free depth b (λ e. c 0 (omega arith) e)) ∙ ap (onto_first b) (first (depth_after depth b) bs rest (covered_tail depth b bs c) z)

pub parts_complete : (text : List ℕ) (parts : List (List ℕ)) → AreParts text parts → comma_parts text ≡ parts
parts_complete text parts (last c) = whole 0 text c
parts_complete text parts (more part rest {parts = after} c z r) = first 0 part rest c z ∙ ap (λ ps. part ∷ ps) (parts_complete rest after r)
