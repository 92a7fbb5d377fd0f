-- A new file is in the directory of the file that it is made for.
use Rattle.std.proofs.Common.{◌≡◌, ◌≢◌, ℕ, zero, suc, ◌+◌, ◌-◌, ◌<◌, ◌/◌, ◌%◌, ◌==◌, Bool, true, false, List, [], ◌∷◌, ◌++◌, length, get_or, take, drop, Option, Some, None, refl, sym, ap, subst, ◌∙◌, arith}
use Rattle.std.specs.Prelude.{All, codes, decimal, not, option_map, nat_lt}
use Rattle.std.specs.List.{list_all}
use Rattle.std.specs.Fmt.{digit_glyph, digits, digits_onto}
use Rattle.std.specs.Path.{rfind_below}
use Rattle.std.proofs.lemmas.Bool.{true≢false, and_parts, cond_both, eq-eqb, eqb-true}
use Rattle.std.proofs.lemmas.List.{get_or_append_left, get_or-append_right, get_or-take, length-take-le, length-append, take_at, take-append-drop}
use Rattle.std.proofs.lemmas.List.Elements.{All-nil, All-cons, All-append}
use Rattle.file_disk.specs.Known.{Known, directory_under}
use Rattle.file_texts.specs.Coherent.{HasPlace}
use Rattle.file_texts.specs.Names.{last_slash, through_index, home_at, home_of, after_index, last_of, temporary}
use Rattle.file_texts.specs.Places.{place_at}
use Rattle.file_texts.specs.declared.places.FilePlace.{FilePlace}
use Rattle.file_texts.proofs.Slashes.{last_slash_is}

-- ---- the last part of a new file's name has no slash

abbrev IsPlain : ℕ → Type 0
IsPlain b = b ≢ 47

plain_glyph : (d : ℕ) → IsPlain (digit_glyph false d)
plain_glyph d = cond_both (nat_lt d 10) (48 + d) (87 + d) IsPlain (λ _ is. omega (arith, is)) (λ _ is. omega (arith, is))

plain_onto : (k n : ℕ) (acc : List ℕ) → All IsPlain acc → All IsPlain (digits_onto k 10 false n acc)
plain_onto zero n acc all = all
plain_onto (suc k) n acc all =
    let more : All IsPlain (digit_glyph false (n % 10) ∷ acc) = All-cons IsPlain (digit_glyph false (n % 10)) acc (plain_glyph (n % 10)) all in
    cond_both (n / 10 == 0) (digit_glyph false (n % 10) ∷ acc) (digits_onto k 10 false (n / 10) (digit_glyph false (n % 10) ∷ acc)) (All IsPlain)
    (λ _. more) (λ _. plain_onto k (n / 10) (digit_glyph false (n % 10) ∷ acc) more)

plain_decimal : (n : ℕ) → All IsPlain (decimal n)
unfolding digits
plain_decimal n = plain_onto 64 n [] (All-nil IsPlain)

abbrev last_part : ℕ → List ℕ
last_part n = codes "acrun-" ++ (decimal n ++ codes ".tmp")

not_slash : (b : ℕ) (t : Bool) → (b == 47) ≡ t → not t ≡ true → IsPlain b
not_slash b true is e = absurd cc
not_slash b false is e = λ same. true≢false (sym (eq-eqb b 47 same) ∙ is)

plain_all : (bs : List ℕ) → list_all (λ b. not (b == 47)) bs ≡ true → All IsPlain bs
plain_all [] e = All-nil IsPlain
plain_all (b ∷ bs) e =
    let p = and_parts (not (b == 47)) (list_all (λ x. not (x == 47)) bs) e in
    All-cons IsPlain b bs (not_slash b (b == 47) refl p.0) (plain_all bs p.1)

plain_last : (n : ℕ) → All IsPlain (last_part n)
plain_last n =
    All-append IsPlain (codes "acrun-") (decimal n ++ codes ".tmp") (plain_all (codes "acrun-") refl) (All-append IsPlain (decimal n) (codes ".tmp") (plain_decimal n) (plain_all (codes ".tmp") refl))

-- ---- where the last slash is

found_below : (name : List ℕ) (n k : ℕ) → rfind_below 47 name n ≡ Some k → (k < n) × (get_or name k 0 ≡ 47)
found_below name zero k is = absurd (none_some is)
  where
    none_some : {m : ℕ} → None ≡ Some m → ⊥
    none_some e = cc
found_below name (suc n) k is =
    cond_both (get_or name n 0 == 47) (Some n) (rfind_below 47 name n) (λ o. o ≡ Some k → (k < suc n) × (get_or name k 0 ≡ 47))
    (λ here e. (let same : n ≡ k = cc in (omega (arith, same), ap (λ i. get_or name i 0) (sym same) ∙ eqb-true (get_or name n 0) 47 here)))
    (λ other e. (let earlier = found_below name n k e in (omega (arith, earlier.0), earlier.1))) is

pub slash_at : (name : List ℕ) (k : ℕ) → last_slash name ≡ Some k → (k < length name) × (get_or name k 0 ≡ 47)
slash_at name k is = found_below name (length name) k is

-- A text without a slash after a front up to the last slash.
after_front : (name rest : List ℕ) (s : Option ℕ) → last_slash name ≡ s → All IsPlain rest
    → home_of (through_index name s ++ rest) ≡ home_at name s
after_front name rest None is plain = ap (home_at rest) (last_slash_is rest None (λ i l. plain i 0 l))
after_front name rest (Some k) is plain =
    let at = slash_at name k is in
    let front : List ℕ = take (k + 1) name in
    let long : length front ≡ k + 1 = length-take-le (k + 1) name (omega (arith, at.0)) in
    let whole : length (front ++ rest) ≡ length front + length rest = length-append front rest in
    let found : last_slash (front ++ rest) ≡ Some k =
    last_slash_is (front ++ rest) (Some k) (
      omega (arith, whole, long),
      get_or_append_left front rest 0 k (omega (arith, long)) ∙ get_or-take (k + 1) name k 0 (omega arith) ∙ at.1,
      λ i later within is_slash.
          plain (i - (k + 1)) 0 (omega (arith, whole, long, later, within)) (sym (get_or-append_right front rest (k + 1) i 0 long (omega (arith, later))) ∙ is_slash),
    ) in
    ap (home_at (front ++ rest)) found ∙ take_at front rest (k + 1) long

pub home_beside : (name : List ℕ) (n : ℕ) → home_of (temporary name n) ≡ home_of name
home_beside name n = after_front name (last_part n) (last_slash name) refl (plain_last n)

-- ---- places

abbrev IsThere : Option (ℕ × ℕ) → (ℕ × ℕ → FilePlace) → Type 0
IsThere o f = (place : FilePlace) × (option_map f o ≡ Some place)

there_too : (o : Option (ℕ × ℕ)) (f g : ℕ × ℕ → FilePlace) → IsThere o f → IsThere o g
there_too None f g is = absurd (none_some is.1)
  where
    none_some : {p : FilePlace} → None ≡ Some p → ⊥
    none_some e = cc
there_too (Some d) f g is = (g d, refl)

-- A new file has a place if the file that it is made for has one.
pub has_beside : (k : Known) (name : List ℕ) (n : ℕ) → HasPlace k name → HasPlace k (temporary name n)
has_beside k name n has =
    subst (λ o. IsThere o (place_at (temporary name n))) (ap (directory_under k) (sym (home_beside name n)))
    (there_too (directory_under k (home_of name)) (place_at name) (place_at (temporary name n)) has)

-- ---- a name is that of its directory and its last part

dot_or_slash : (name : List ℕ) (k : ℕ) → last_slash name ≡ Some k → codes "." ≡ take (k + 1) name → ⊥
dot_or_slash name k is same =
    let at = slash_at name k is in
    let long : length (take (k + 1) name) ≡ k + 1 = length-take-le (k + 1) name (omega (arith, at.0)) in
    let one : 1 ≡ k + 1 = ap length same ∙ long in
    let first : k ≡ 0 = omega (arith, one) in
    let slash : get_or (take (k + 1) name) k 0 ≡ 47 = get_or-take (k + 1) name k 0 (omega arith) ∙ at.1 in
    let dot : get_or (codes ".") k 0 ≡ 47 = ap (λ l. get_or l k 0) same ∙ slash in
    let zeroth : get_or (codes ".") 0 0 ≡ 47 = subst (λ i. get_or (codes ".") i 0 ≡ 47) first dot in
    omega (arith, zeroth)

name_by : (a b : List ℕ) (s t : Option ℕ) → last_slash a ≡ s → last_slash b ≡ t → home_at a s ≡ home_at b t
    → after_index a s ≡ after_index b t → a ≡ b
name_by a b None None is_a is_b home last = last
name_by a b None (Some k) is_a is_b home last = absurd (dot_or_slash b k is_b home)
name_by a b (Some i) None is_a is_b home last = absurd (dot_or_slash a i is_a (sym home))
name_by a b (Some i) (Some k) is_a is_b home last =
    sym (take-append-drop (i + 1) a) ∙ ap (λ l. l ++ drop (i + 1) a) home ∙ ap (λ l. take (k + 1) b ++ l) last ∙ take-append-drop (k + 1) b

pub name_is : (a b : List ℕ) → home_of a ≡ home_of b → last_of a ≡ last_of b → a ≡ b
name_is a b home last = name_by a b (last_slash a) (last_slash b) refl refl home last
