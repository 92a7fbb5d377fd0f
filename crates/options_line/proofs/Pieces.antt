-- A text's key, the value after its `=`, and what follows a front.
use Rattle.std.proofs.Common.{◌≡◌, ◌≢◌, ℕ, zero, suc, ◌+◌, ◌-◌, ◌<◌, Bool, true, false, ◌==◌, ◌&&◌, not, cond, if◌then◌else◌, List, [], ◌∷◌, ◌++◌, length, take, drop, get_or, position, Option, Some, None, refl, sym, ap, ◌∙◌, codes, Bor, add-one, arith}
use Rattle.std.specs.List.{list_all, position_from}
use Rattle.std.specs.Option.{option_map, MatchOption}
use Rattle.std.proofs.lemmas.Bool.{eqb-true, eq-eqb}
use Rattle.std.proofs.lemmas.Iterator.Adapters.{position_from-zero}
use Rattle.std.proofs.lemmas.List.Quantifiers.{position-Some}
use Rattle.std.proofs.lemmas.List.{take_all, length-drop}
use Rattle.deftable.specs.ShellName.{starts_name, continues_name, is_shell_name_of}
use Rattle.ac_tree.specs.Feature.{is_feature_byte, is_feature}
use Rattle.ac_tree.specs.Texts.{is_empty}
use Rattle.options_line.specs.Arguments.{value_in, rest_after}
use Rattle.options_line.specs.CommandLine.{key_of, is_dashed}

abbrev is_equals : ℕ → Bool
is_equals b = b == 61

-- ---- the offset of the first `=`

key_take : (text : List ℕ) (i : ℕ) → i < length text → is_equals (get_or text i 0) ≡ true → ((k : ℕ) → k < i → is_equals (get_or text k 0) ≡ false) → take i text ≡ key_of text
unfolding key_of
key_take [] i lt here before = absurd (omega arith)
key_take (b ∷ bs) zero lt here before = rw here refl
key_take (b ∷ bs) (suc i) lt here before =
    rw (before 0 (omega arith)) (ap (λ xs. b ∷ xs) (key_take bs i (omega arith) here (λ k l. before (suc k) (omega arith))))

value_drop : (text : List ℕ) (i : ℕ) → i < length text → is_equals (get_or text i 0) ≡ true → ((k : ℕ) → k < i → is_equals (get_or text k 0) ≡ false) → Some (drop (suc i) text) ≡ value_in text
unfolding value_in
value_drop [] i lt here before = absurd (omega arith)
value_drop (b ∷ bs) zero lt here before = rw here refl
value_drop (b ∷ bs) (suc i) lt here before = rw (before 0 (omega arith)) (value_drop bs i (omega arith) here (λ k l. before (suc k) (omega arith)))

-- No `=`.
whole_at : (i b : ℕ) (bs : List ℕ) (t : Bool) → (b == 61) ≡ t → (position_from is_equals (i + 1) bs ≡ None → (bs ≡ key_of bs) × (None ≡ value_in bs))
    → cond t (Some i) (position_from is_equals (i + 1) bs) ≡ None → (b ∷ bs ≡ key_of (b ∷ bs)) × (None ≡ value_in (b ∷ bs))
unfolding key_of value_in
whole_at i b bs true is more h = absurd (cc)
whole_at i b bs false is more h = let rest = more h in rw is (ap (λ xs. b ∷ xs) rest.0, rest.1)

whole : (i : ℕ) (text : List ℕ) → position_from is_equals i text ≡ None → (text ≡ key_of text) × (None ≡ value_in text)
unfolding key_of value_in
whole i [] e = (refl, refl)
whole i (b ∷ bs) e = whole_at i b bs (b == 61) refl (whole (i + 1) bs) e

pub key_is : (text : List ℕ) (i : ℕ) → position is_equals text ≡ Some i → take i text ≡ key_of text
key_is text i e = let at = position-Some is_equals text i 0 e in key_take text i at.0 at.1 at.2

pub value_is : (text : List ℕ) (i : ℕ) → position is_equals text ≡ Some i → Some (take (length text - (i + 1)) (drop (i + 1) text)) ≡ value_in text
value_is text i e =
    let at = position-Some is_equals text i 0 e in
    ap (λ xs. Some xs) (take_all (length text - (i + 1)) (drop (i + 1) text) (omega (arith, length-drop (i + 1) text)))
    ∙ ap (λ n. Some (drop n text)) (add-one i) ∙ value_drop text i at.0 at.1 at.2

pub no_key : (text : List ℕ) → position is_equals text ≡ None → text ≡ key_of text
no_key text e = (whole 0 text (sym (position_from-zero is_equals text) ∙ e)).0

pub no_value : (text : List ℕ) → position is_equals text ≡ None → None ≡ value_in text
no_value text e = (whole 0 text (sym (position_from-zero is_equals text) ∙ e)).1

-- ---- what follows a front

pub rest_found : (front rest : List ℕ) → rest_after front (front ++ rest) ≡ Some rest
unfolding rest_after
rest_found [] rest = refl
rest_found (c ∷ cs) rest = rw (eq-eqb c c refl) (rest_found cs rest)

rest_at : (c b : ℕ) (cs bs rest : List ℕ) (t : Bool) → (b == c) ≡ t → (rest_after cs bs ≡ Some rest → bs ≡ cs ++ rest)
    → (if t then rest_after cs bs else None) ≡ Some rest → b ∷ bs ≡ c ∷ (cs ++ rest)
rest_at c b cs bs rest true is more h = let same = eqb-true b c is in let tail = more h in cc
rest_at c b cs bs rest false is more h = absurd (cc)

pub rest_is : (front text rest : List ℕ) → rest_after front text ≡ Some rest → text ≡ front ++ rest
unfolding rest_after
rest_is [] text rest e = cc
rest_is (c ∷ cs) [] rest e = absurd (cc)
rest_is (c ∷ cs) (b ∷ bs) rest e = rest_at c b cs bs rest (b == c) refl (rest_is cs bs rest) e

pub rest_none : (front text : List ℕ) → ((rest : List ℕ) → text ≢ front ++ rest) → rest_after front text ≡ None
rest_none front text never = none_at (rest_after front text) refl where
  none_at : (r : Option (List ℕ)) → rest_after front text ≡ r → r ≡ None
  none_at None e = refl
  none_at (Some rest) e = absurd (never rest (rest_is front text rest e))

pub stripped : (front text : List ℕ) (r : Option (Bor (List ℕ))) → MatchOption r ((rest : List ℕ) → text ≢ front ++ rest) (λ x. text ≡ front ++ x.now)
    → option_map (λ rest. rest.now) r ≡ rest_after front text
stripped front text None h = sym (rest_none front text h)
stripped front text (Some x) h = sym (ap (rest_after front) h ∙ rest_found front x.now)

-- ---- a key, a `=` and a value are the text

pub text_parts : (text value : List ℕ) → value_in text ≡ Some value → text ≡ key_of text ++ codes "=" ++ value
unfolding key_of value_in
text_parts [] value e = absurd (cc)
text_parts (b ∷ bs) value e = at (b == 61) refl (text_parts bs value) e where
  at : (t : Bool) → (b == 61) ≡ t → (value_in bs ≡ Some value → bs ≡ key_of bs ++ codes "=" ++ value)
      → (if t then Some bs else value_in bs) ≡ Some value → b ∷ bs ≡ (if t then [] else b ∷ key_of bs) ++ codes "=" ++ value
  at true is more h = let same = eqb-true b 61 is in cc
  at false is more h = ap (λ xs. b ∷ xs) (more h)

pub key_whole : (text : List ℕ) → value_in text ≡ None → key_of text ≡ text
unfolding key_of value_in
key_whole [] e = refl
key_whole (b ∷ bs) e = at (b == 61) (key_whole bs) e where
  at : (t : Bool) → (value_in bs ≡ None → key_of bs ≡ bs) → (if t then Some bs else value_in bs) ≡ None → (if t then [] else b ∷ key_of bs) ≡ b ∷ bs
  at true more h = absurd (cc)
  at false more h = ap (λ xs. b ∷ xs) (more h)

-- A key has no `=`.
pub key_key : (text : List ℕ) → key_of (key_of text) ≡ key_of text
unfolding key_of
key_key [] = refl
key_key (b ∷ bs) = at (b == 61) refl (key_key bs) where
  at : (t : Bool) → (b == 61) ≡ t → key_of (key_of bs) ≡ key_of bs → key_of (if t then [] else b ∷ key_of bs) ≡ (if t then [] else b ∷ key_of bs)
  at true is more = refl
  at false is more = rw is (ap (λ xs. b ∷ xs) more)

-- ---- a name without `=`, and a value

pub key_front : (name value : List ℕ) → key_of name ≡ name → key_of (name ++ codes "=" ++ value) ≡ name
unfolding key_of
key_front [] value e = refl
key_front (b ∷ bs) value e = at (b == 61) (key_front bs value) e where
  at : (t : Bool) → (key_of bs ≡ bs → key_of (bs ++ codes "=" ++ value) ≡ bs) → (if t then [] else b ∷ key_of bs) ≡ b ∷ bs → (if t then [] else b ∷ key_of (bs ++ codes "=" ++ value)) ≡ b ∷ bs
  at true more h = absurd (cc)
  at false more h = let tail : key_of bs ≡ bs = cc in ap (λ xs. b ∷ xs) (more tail)

pub value_front : (name value : List ℕ) → key_of name ≡ name → value_in (name ++ codes "=" ++ value) ≡ Some value
unfolding key_of value_in
value_front [] value e = refl
value_front (b ∷ bs) value e = at (b == 61) (value_front bs value) e where
  at : (t : Bool) → (key_of bs ≡ bs → value_in (bs ++ codes "=" ++ value) ≡ Some value) → (if t then [] else b ∷ key_of bs) ≡ b ∷ bs → (if t then Some (bs ++ codes "=" ++ value) else value_in (bs ++ codes "=" ++ value)) ≡ Some value
  at true more h = absurd (cc)
  at false more h = let tail : key_of bs ≡ bs = cc in more tail

pub no_value_in : (text : List ℕ) → key_of text ≡ text → value_in text ≡ None
unfolding key_of value_in
no_value_in [] e = refl
no_value_in (b ∷ bs) e = at (b == 61) (no_value_in bs) e where
  at : (t : Bool) → (key_of bs ≡ bs → value_in bs ≡ None) → (if t then [] else b ∷ key_of bs) ≡ b ∷ bs → (if t then Some bs else value_in bs) ≡ None
  at true more h = absurd (cc)
  at false more h = let tail : key_of bs ≡ bs = cc in more tail

-- ---- names have no `=`

-- A byte that passes is another than one that doesn't.
pub other_byte : (p : ℕ → Bool) (b c : ℕ) → p c ≡ false → p b ≡ true → (b == c) ≡ false
other_byte p b c no_c yes_b = at (b == c) refl where
  at : (t : Bool) → (b == c) ≡ t → t ≡ false
  at true is = let same = eqb-true b c is in let both = ap p same in absurd (cc)
  at false is = refl

and_parts : (a b : Bool) → (a && b) ≡ true → (a ≡ true) × (b ≡ true)
and_parts true b h = (refl, h)
and_parts false b h = absurd (cc)

no_equals : (p : ℕ → Bool) → p 61 ≡ false → (text : List ℕ) → list_all p text ≡ true → key_of text ≡ text
unfolding key_of
no_equals p never [] h = refl
no_equals p never (b ∷ bs) h =
    let parts = and_parts (p b) (list_all p bs) h in
    rw (other_byte p b 61 never parts.0) (ap (λ xs. b ∷ xs) (no_equals p never bs parts.1))

pub feature_key : (name : List ℕ) → is_feature name ≡ true → key_of name ≡ name
feature_key name h = no_equals is_feature_byte refl name (and_parts (not (is_empty name)) (list_all is_feature_byte name) h).1

pub shell_key : (name : List ℕ) → is_shell_name_of name ≡ true → key_of name ≡ name
unfolding key_of
shell_key [] h = refl
shell_key (b ∷ bs) h =
    let parts = and_parts (starts_name b) (list_all continues_name bs) h in
    rw (other_byte starts_name b 61 refl parts.0) (ap (λ xs. b ∷ xs) (no_equals continues_name refl bs parts.1))

pub shell_plain : (name value : List ℕ) → is_shell_name_of name ≡ true → is_dashed (name ++ codes "=" ++ value) ≡ false
shell_plain [] value h = refl
shell_plain (b ∷ bs) value h = other_byte starts_name b 45 refl (and_parts (starts_name b) (list_all continues_name bs) h).0
