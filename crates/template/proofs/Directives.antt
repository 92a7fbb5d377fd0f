-- The directive of a line: what the function gives is what the relation has.
use Rattle.std.proofs.Common.{◌≡◌, ℕ, zero, suc, ◌+◌, ◌<◌, Bool, true, false, cond, ◌&&◌, ◌||◌, List, [], ◌∷◌, ◌++◌, length, take, drop, Option, Some, None, refl, sym, ap, subst, ◌∙◌, ◌⊎◌, inl, inr, arith, take-append-drop}
use Rattle.std.specs.Prelude.{◌==◌, option_map, option_and_then, codes, bytes_eq, flat_map}
use Rattle.std.specs.List.{list_all, prefix_len}
use Rattle.std.proofs.lemmas.Bool.Decides.{eqb_tells}
use Rattle.std.proofs.lemmas.List.Folds.{length-prefix_len}
use Rattle.std.proofs.lemmas.Slice.Eq.{bytes_eq-Decides}
use Rattle.std.proofs.lemmas.Bool.{and_parts}
use Rattle.deftable.specs.ShellName.{is_shell_name_of, starts_name, continues_name}
use Rattle.deftable.specs.Table.{value_of}
use Rattle.template.specs.Header.IsMadeOf.{defined, undefined, kept, other}
use Rattle.template.specs.Header.AreMadeOf.{no_line, one_line}
use Rattle.template.specs.Header.{IsMadeOf, AreMadeOf, changed, defined_line, undefined_line, without_definition, newline_of, headed_line, Directive, IsDirective, is_space, keyword, ends_name, either, rest_after, spaces_of, after_spaces, word_of, after_word, name_at, name_after, with_keyword, keyword_at, directive_after, directive_of}
use Rattle.deftable.proofs.Names.{start_continues}

-- ---- small facts

pub seen : {A : Type 0} (o : Option A) → ((x : A) × (o ≡ Some x)) ⊎ (o ≡ None)
seen (Some x) = inl (x, refl)
seen None = inr refl

pub is_or_not : (b : Bool) → (b ≡ true) ⊎ (b ≡ false)
is_or_not true = inl refl
is_or_not false = inr refl

-- a text that the test refuses at its front, if it has one
abbrev Stops : (ℕ → Bool) → List ℕ → Type 0
Stops p [] = Unit {0}
Stops p (b ∷ bs) = p b ≡ false

-- the longest front that passes, if the text is parted there
record IsParted (p : ℕ → Bool) (xs ys : List ℕ) : Type 0 where
  count : prefix_len p (xs ++ ys) ≡ length xs
  front : take (prefix_len p (xs ++ ys)) (xs ++ ys) ≡ xs
  rest : drop (prefix_len p (xs ++ ys)) (xs ++ ys) ≡ ys

one_more : (n : ℕ) → 1 + n ≡ suc n
one_more n = omega arith

take_one_more : (n x : ℕ) (xs : List ℕ) → take (1 + n) (x ∷ xs) ≡ x ∷ take n xs
take_one_more n x xs = ap (λ m. take m (x ∷ xs)) (one_more n)

drop_one_more : (n x : ℕ) (xs : List ℕ) → drop (1 + n) (x ∷ xs) ≡ drop n xs
drop_one_more n x xs = ap (λ m. drop m (x ∷ xs)) (one_more n)

parted : (p : ℕ → Bool) (xs ys : List ℕ) → list_all p xs ≡ true → Stops p ys → IsParted p xs ys
parted p [] [] all stops = record { count = refl; front = refl; rest = refl }
parted p [] (y ∷ ys) all stops = record { count = rw stops refl; front = rw stops refl; rest = rw stops refl }
parted p (x ∷ xs) ys all stops =
    let h = and_parts (p x) (list_all p xs) all in
    let r = parted p xs ys h.1 stops in
    let n : ℕ = prefix_len p (xs ++ ys) in
    record {
      count = ap (λ c. cond c (1 + n) 0) h.0 ∙ one_more n ∙ ap (λ m. suc m) r.count;
      front = ap (λ c. take (cond c (1 + n) 0) (x ∷ (xs ++ ys))) h.0 ∙ take_one_more n x (xs ++ ys) ∙ ap (λ t. x ∷ t) r.front;
      rest = ap (λ c. drop (cond c (1 + n) 0) (x ∷ (xs ++ ys))) h.0 ∙ drop_one_more n x (xs ++ ys) ∙ r.rest;
    }

front_passes : (p : ℕ → Bool) (xs : List ℕ) → list_all p (take (prefix_len p xs) xs) ≡ true
front_passes p [] = refl
front_passes p (x ∷ xs) =
    let n : ℕ = prefix_len p xs in
    elim (is_or_not (p x)) [
      | inl h ↦ ap (λ c. list_all p (take (cond c (1 + n) 0) (x ∷ xs))) h ∙ ap (list_all p) (take_one_more n x xs) ∙ ap (λ c. c && list_all p (take n xs)) h ∙ front_passes p xs
      | inr h ↦ ap (λ c. list_all p (take (cond c (1 + n) 0) (x ∷ xs))) h
    ]

-- ---- names

false_true : false ≡ true → ⊥
false_true e = absurd cc

starts_apart : (b : ℕ) → starts_name b ≡ true → is_space b ≡ false
starts_apart b is = elim (eqb_tells b 32) [
  | inl h ↦ absurd (false_true (subst (λ n. starts_name n ≡ true) h.1 is))
  | inr h ↦ elim (eqb_tells b 9) [
    | inl k ↦ absurd (false_true (subst (λ n. starts_name n ≡ true) k.1 is))
    | inr k ↦ rw (h.0, k.0) refl
  ]
]

name_stops : (name rest : List ℕ) → is_shell_name_of name ≡ true → Stops is_space (name ++ rest)
name_stops [] rest is = absurd cc
name_stops (b ∷ bs) rest is = starts_apart b (and_parts (starts_name b) (list_all continues_name bs) is).0

continues_apart : (b : ℕ) → is_space b || b == 40 || b == 10 ≡ true → continues_name b ≡ false
continues_apart b is = elim (eqb_tells b 32) [
  | inl h ↦ ap continues_name h.1
  | inr h ↦ elim (eqb_tells b 9) [
    | inl k ↦ ap continues_name k.1
    | inr k ↦ elim (eqb_tells b 40) [
      | inl l ↦ ap continues_name l.1
      | inr l ↦ elim (eqb_tells b 10) [
        | inl m ↦ ap continues_name m.1
        | inr m ↦ absurd (false_true (sym (rw (h.0, k.0, l.0, m.0) refl) ∙ is))
      ]
    ]
  ]
]

rest_stops : (rest : List ℕ) → ends_name rest ≡ true → Stops continues_name rest
rest_stops [] is = tt
rest_stops (b ∷ bs) is = continues_apart b is

name_continues : (name : List ℕ) → is_shell_name_of name ≡ true → list_all continues_name name ≡ true
name_continues [] is = absurd (false_true is)
name_continues (b ∷ bs) is =
    let h = and_parts (starts_name b) (list_all continues_name bs) is in
    ap (λ c. c && list_all continues_name bs) (start_continues b h.0) ∙ h.1

-- ---- a line that has a directive

name_at_is : (name rest : List ℕ) → is_shell_name_of name ≡ true → ends_name rest ≡ true → name_at (name ++ rest) ≡ Some name
unfolding name_at
name_at_is name rest is ends =
    let p = parted continues_name name rest (name_continues name is) (rest_stops rest ends) in
    rw (p.front, p.rest, is, ends) refl

some_length : (n : ℕ) → 0 < n → (n == 0) ≡ false
some_length zero more = absurd (omega (arith, more))
some_length (suc n) more = elim (eqb_tells (suc n) 0) [
  | inl h ↦ absurd (omega (arith, h.1))
  | inr h ↦ h.0
]

name_after_is : (space name rest : List ℕ) → list_all is_space space ≡ true → 0 < length space → is_shell_name_of name ≡ true → ends_name rest ≡ true
    → name_after (space ++ (name ++ rest)) ≡ Some name
unfolding name_after
name_after_is space name rest spaced some is ends =
    let p = parted is_space space (name ++ rest) spaced (name_stops name rest is) in
    rw (p.rest, p.count, some_length (length space) some) (name_at_is name rest is ends)

keyword_at_is : (is_undef : Bool) (text name : List ℕ) → name_after text ≡ Some name → keyword_at (keyword is_undef ++ text) ≡ Some (is_undef, name)
unfolding keyword_at rest_after
keyword_at_is true text name is = ap (with_keyword true) is
keyword_at_is false text name is = ap (with_keyword false) is

keyword_stops : (is_undef : Bool) (text : List ℕ) → Stops is_space (keyword is_undef ++ text)
keyword_stops true text = refl
keyword_stops false text = refl

directive_after_is : (d : Directive) (text : List ℕ) → list_all is_space d.gap ≡ true → name_after text ≡ Some d.name
    → directive_after d.indent (d.gap ++ (keyword d.is_undef ++ text)) ≡ Some d
unfolding directive_after
directive_after_is d text all is =
    let p = parted is_space d.gap (keyword d.is_undef ++ text) all (keyword_stops d.is_undef text) in
    rw (p.front, p.rest, keyword_at_is d.is_undef text d.name is) refl

mark_is : (text : List ℕ) → rest_after (codes "#") (35 ∷ text) ≡ Some text
unfolding rest_after
mark_is text = refl

pub directive_is : (line : List ℕ) (d : Directive) → IsDirective line d → directive_of line ≡ Some d
unfolding directive_of
directive_is line d i =
    let text : List ℕ = d.gap ++ (keyword d.is_undef ++ (i.space ++ (d.name ++ i.rest))) in
    let p = parted is_space d.indent (35 ∷ text) i.indent refl in
    let after = name_after_is i.space d.name i.rest i.spaced i.is_spaced i.name i.ends in
    ap directive_of i.is_line
    ∙ rw (p.front, p.rest, mark_is text) (directive_after_is d (i.space ++ (d.name ++ i.rest)) i.gap after)

-- ---- a line whose directive the function gives

if_some : {A : Type 0} (b : Bool) (x y : A) → cond b (Some x) None ≡ Some y → (b ≡ true) × (x ≡ y)
if_some true x y is = (refl, some_is x y is)
  where
    some_is : {A : Type 0} (x y : A) → Some x ≡ Some y → x ≡ y
    some_is x y is = cc
if_some false x y is = absurd cc

if_not : {A : Type 0} (b : Bool) (o : Option A) (y : A) → cond b None o ≡ Some y → (b ≡ false) × (o ≡ Some y)
if_not true o y is = absurd cc
if_not false o y is = (refl, is)

from_map : {A B : Type 0} (f : A → B) (o : Option A) (y : B) → option_map f o ≡ Some y → (x : A) × (o ≡ Some x) × (f x ≡ y)
from_map f (Some x) y is = (x, refl, cc)
from_map f None y is = absurd cc

from_then : {A B : Type 0} (f : A → Option B) (o : Option A) (y : B) → option_and_then f o ≡ Some y → (x : A) × (o ≡ Some x) × (f x ≡ Some y)
from_then f (Some x) y is = (x, refl, is)
from_then f None y is = absurd cc

record HasName (text name : List ℕ) : Type 0 where
  rest : List ℕ
  is : is_shell_name_of name ≡ true
  ends : ends_name rest ≡ true
  text_is : text ≡ name ++ rest

parts_join : (n : ℕ) (xs : List ℕ) → xs ≡ take n xs ++ drop n xs
parts_join n xs = sym (take-append-drop n xs)

name_at_gives : (text name : List ℕ) → name_at text ≡ Some name → HasName text name
unfolding name_at
name_at_gives text name is =
    let h = if_some (is_shell_name_of (word_of text) && ends_name (after_word text)) (word_of text) name is in
    let b = and_parts (is_shell_name_of (word_of text)) (ends_name (after_word text)) h.0 in
    record {
      rest = after_word text;
      is = subst (λ t. is_shell_name_of t ≡ true) h.1 b.0;
      ends = b.1;
      text_is = parts_join (prefix_len continues_name text) text ∙ ap (λ t. t ++ after_word text) h.1;
    }

record HasNameAfter (text name : List ℕ) : Type 0 where
  space : List ℕ
  rest : List ℕ
  spaced : list_all is_space space ≡ true
  some : 0 < length space
  is : is_shell_name_of name ≡ true
  ends : ends_name rest ≡ true
  text_is : text ≡ space ++ (name ++ rest)

is_some : (n : ℕ) → (n == 0) ≡ false → 0 < n
is_some zero not = absurd (true_false not)
  where
    true_false : true ≡ false → ⊥
    true_false e = absurd cc
is_some (suc n) not = omega arith

name_after_gives : (text name : List ℕ) → name_after text ≡ Some name → HasNameAfter text name
unfolding name_after
name_after_gives text name is =
    let h = if_not (prefix_len is_space text == 0) (name_at (after_spaces text)) name is in
    let n = name_at_gives (after_spaces text) name h.1 in
    record {
      space = spaces_of text;
      rest = n.rest;
      spaced = front_passes is_space text;
      some = subst (λ k. 0 < k) (sym (length-prefix_len is_space text)) (is_some (prefix_len is_space text) h.0);
      is = n.is;
      ends = n.ends;
      text_is = parts_join (prefix_len is_space text) text ∙ ap (λ t. spaces_of text ++ t) n.text_is;
    }

rest_after_gives : (front text rest : List ℕ) → rest_after front text ≡ Some rest → text ≡ front ++ rest
unfolding rest_after
rest_after_gives front text rest is =
    let h = if_some (bytes_eq (take (length front) text) front) (drop (length front) text) rest is in
    parts_join (length front) text ∙ ap (λ t. t ++ drop (length front) text) ((bytes_eq-Decides (take (length front) text) front).0 h.0) ∙ ap (λ t. front ++ t) h.1

record HasKeyword (text : List ℕ) (is_undef : Bool) (name : List ℕ) : Type 0 where
  rest : List ℕ
  text_is : text ≡ keyword is_undef ++ rest
  after : name_after rest ≡ Some name

with_keyword_gives : (b is_undef : Bool) (text rest name : List ℕ) → text ≡ keyword b ++ rest → with_keyword b (name_after rest) ≡ Some (is_undef, name) → HasKeyword text is_undef name
with_keyword_gives b is_undef text rest name text_is is =
    let h = from_map (λ n. (b, n)) (name_after rest) (is_undef, name) is in
    let e : (b, h.0) ≡ (is_undef, name) = h.2 in
    record {
      rest = rest;
      text_is = text_is ∙ ap (λ c. keyword c ++ rest) (ap (λ p. p.0) e);
      after = h.1 ∙ ap (λ t. Some t) (ap (λ p. p.1) e);
    }

keyword_at_gives : (text : List ℕ) (is_undef : Bool) (name : List ℕ) → keyword_at text ≡ Some (is_undef, name) → HasKeyword text is_undef name
unfolding keyword_at
keyword_at_gives text is_undef name is = elim (seen (rest_after (keyword true) text)) [
  | inl h ↦
      with_keyword_gives true is_undef text h.0 name (rest_after_gives (keyword true) text h.0 h.1) (sym (at_first h.1) ∙ is)
  | inr h ↦
      let e : with_keyword false (option_and_then name_after (rest_after (keyword false) text)) ≡ Some (is_undef, name) = sym (at_second h) ∙ is in
      let m = from_map (λ n. (false, n)) (option_and_then name_after (rest_after (keyword false) text)) (is_undef, name) e in
      let t = from_then name_after (rest_after (keyword false) text) m.0 m.1 in
      with_keyword_gives false is_undef text t.0 name (rest_after_gives (keyword false) text t.0 t.1)
      (ap (with_keyword false) t.2 ∙ ap (λ p. Some p) m.2)
]
  where
    second : Option (Bool × List ℕ)
    second = with_keyword false (option_and_then name_after (rest_after (keyword false) text))

    at_first : {rest : List ℕ} → rest_after (keyword true) text ≡ Some rest
        → either (rest_after (keyword true) text) (λ r. with_keyword true (name_after r)) second ≡ with_keyword true (name_after rest)
    at_first e = ap (λ o. either o (λ r. with_keyword true (name_after r)) second) e

    at_second : rest_after (keyword true) text ≡ None → either (rest_after (keyword true) text) (λ r. with_keyword true (name_after r)) second ≡ second
    at_second e = ap (λ o. either o (λ r. with_keyword true (name_after r)) second) e

record HasDirective (text indent : List ℕ) (d : Directive) : Type 0 where
  rest : List ℕ
  indent_is : indent ≡ d.indent
  gap : list_all is_space d.gap ≡ true
  text_is : text ≡ d.gap ++ (keyword d.is_undef ++ rest)
  after : name_after rest ≡ Some d.name

directive_after_gives : (indent text : List ℕ) (d : Directive) → directive_after indent text ≡ Some d → HasDirective text indent d
unfolding directive_after
directive_after_gives indent text d is =
    let made : (Bool × List ℕ) → Directive = λ k. record { indent = indent; gap = spaces_of text; is_undef = k.0; name = k.1 } in
    let m = from_map made (keyword_at (after_spaces text)) d is in
    let k = keyword_at_gives (after_spaces text) m.0.0 m.0.1 m.1 in
    subst (HasDirective text indent) m.2 (record {
      rest = k.rest;
      indent_is = refl;
      gap = front_passes is_space text;
      text_is = parts_join (prefix_len is_space text) text ∙ ap (λ t. spaces_of text ++ t) k.text_is;
      after = k.after;
    })

pub directive_gives : (line : List ℕ) (d : Directive) → directive_of line ≡ Some d → IsDirective line d
unfolding directive_of
directive_gives line d is =
    let t = from_then (directive_after (spaces_of line)) (rest_after (codes "#") (after_spaces line)) d is in
    let h = directive_after_gives (spaces_of line) t.0 d t.2 in
    let n = name_after_gives h.rest d.name h.after in
    record {
      space = n.space;
      rest = n.rest;
      indent = ap (list_all is_space) (sym h.indent_is) ∙ front_passes is_space line;
      gap = h.gap;
      spaced = n.spaced;
      is_spaced = n.some;
      name = n.is;
      ends = n.ends;
      is_line = parts_join (prefix_len is_space line) line
          ∙ ap (λ x. spaces_of line ++ x) (rest_after_gives (codes "#") (after_spaces line) t.0 t.1)
          ∙ ap (λ x. x ++ 35 ∷ t.0) h.indent_is
          ∙ ap (λ x. d.indent ++ 35 ∷ x) h.text_is
          ∙ ap (λ x. d.indent ++ 35 ∷ (d.gap ++ (keyword d.is_undef ++ x))) n.text_is;
    }

-- ---- the lines that are made

module _ (defs : List (List ℕ × List ℕ)) where
  made_from : (line : List ℕ) (d : Directive) → directive_of line ≡ Some d → IsMadeOf defs line (changed defs line d)
  made_from line d is = elim (seen (value_of defs d.name)) [
    | inl v ↦ subst (IsMadeOf defs line) (sym (ap (λ o. either o (λ value. defined_line d value ++ newline_of line) (without_definition d line)) v.1))
        (defined (directive_gives line d is) v.1)
    | inr v ↦ subst (IsMadeOf defs line) (sym (ap (λ o. either o (λ value. defined_line d value ++ newline_of line) (without_definition d line)) v))
        (elim (is_or_not d.is_undef) [
          | inl u ↦ subst (IsMadeOf defs line) (sym (ap (λ b. cond b (undefined_line d ++ newline_of line) line) u)) (undefined (directive_gives line d is) u v)
          | inr u ↦ subst (IsMadeOf defs line) (sym (ap (λ b. cond b (undefined_line d ++ newline_of line) line) u)) (kept (directive_gives line d is) u v)
        ])
  ]

  pub line_is_made : (line : List ℕ) → IsMadeOf defs line (headed_line defs line)
  unfolding headed_line
  line_is_made line = elim (seen (directive_of line)) [
    | inl d ↦ subst (IsMadeOf defs line) (sym (ap (λ o. either o (changed defs line) line) d.1)) (made_from line d.0 d.1)
    | inr none ↦ subst (IsMadeOf defs line) (sym (ap (λ o. either o (changed defs line) line) none))
        (other (λ d i. none_some (sym none ∙ directive_is line d i)))
  ]
    where
      none_some : {A : Type 0} {x : A} → None ≡ Some x → ⊥
      none_some e = absurd cc

  pub lines_are_made : (lines : List (List ℕ)) → AreMadeOf defs lines (flat_map (headed_line defs) lines)
  lines_are_made [] = no_line
  lines_are_made (line ∷ lines) = one_line (line_is_made line) (lines_are_made lines)

  headed_is : (line : List ℕ) (d : Directive) → IsDirective line d → headed_line defs line ≡ changed defs line d
  unfolding headed_line
  headed_is line d i = ap (λ o. either o (changed defs line) line) (directive_is line d i)

  without_directive : (line : List ℕ) → ((d : Directive) → IsDirective line d → ⊥) → line ≡ headed_line defs line
  unfolding headed_line
  without_directive line none = elim (seen (directive_of line)) [
    | inl d ↦ absurd (none d.0 (directive_gives line d.0 d.1))
    | inr h ↦ sym (ap (λ o. either o (changed defs line) line) h)
  ]

  one_made_line : (line made : List ℕ) → IsMadeOf defs line made → made ≡ headed_line defs line
  one_made_line line made (defined {d = d} {value = value} i v) =
      sym (headed_is line d i ∙ ap (λ o. either o (λ value. defined_line d value ++ newline_of line) (without_definition d line)) v)
  one_made_line line made (undefined {d = d} i u v) =
      sym (headed_is line d i ∙ ap (λ o. either o (λ value. defined_line d value ++ newline_of line) (without_definition d line)) v
      ∙ ap (λ b. cond b (undefined_line d ++ newline_of line) line) u)
  one_made_line line made (kept {d = d} i u v) =
      sym (headed_is line d i ∙ ap (λ o. either o (λ value. defined_line d value ++ newline_of line) (without_definition d line)) v
      ∙ ap (λ b. cond b (undefined_line d ++ newline_of line) line) u)
  one_made_line line made (other none) = without_directive line none

  pub one_made_text : (lines : List (List ℕ)) (made : List ℕ) → AreMadeOf defs lines made → made ≡ flat_map (headed_line defs) lines
  one_made_text [] made no_line = refl
  one_made_text (line ∷ lines) made (one_line {made = first} {more = more} is are) =
      ap (λ t. t ++ more) (one_made_line line first is) ∙ ap (λ t. headed_line defs line ++ t) (one_made_text lines more are)
