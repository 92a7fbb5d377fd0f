-- The function of lines and their forms agree.
use Rattle.std.proofs.Common.{◌≡◌, ℕ, suc, ◌+◌, Bool, true, false, ◌==◌, List, [], ◌∷◌, ◌++◌, Option, Some, None, take, drop, refl, sym, ap, ◌∙◌, subst, inl, inr, ◌⊎◌, arith}
use Rattle.std.specs.Prelude.{option_map, option_and_then, codes}
use Rattle.std.specs.List.{list_all, prefix_len}
use Rattle.std.proofs.lemmas.List.{take-append-drop}
use Rattle.std.proofs.lemmas.Bool.Decides.{eqb_tells}
use Rattle.cachefile.specs.Name.{is_word, is_word_byte}
use Rattle.cachefile.specs.Word.{IsWord, value_in, is_bare}
use Rattle.cachefile.specs.Word as spelt
use Rattle.cachefile.specs.Line.{Setting, Sets, Defaults, is_space, sets_nothing, rest_after, before_brace, rest_after_name, word_len, front_word, default_setting, plain_setting, either, assigned_setting, assignment, guarded_setting, setting_of, line_of}
use Rattle.cachefile.specs.Form.{IsLine}
use Rattle.cachefile.specs.Form as form
use Rattle.cachefile.proofs.Fronts.{rest_after-front, front-rest_after, brace_back, brace_front}
use Rattle.cachefile.proofs.Words.{both_true, word_read, word_is}

true_is_false : true ≡ false → ⊥
true_is_false e = absurd cc

none_is_some : {A : Type 0} (x : A) → None ≡ Some x → ⊥
none_is_some x e = absurd cc

-- ---- a line without a setting

blanks_set_nothing : (line : List ℕ) → list_all is_space line ≡ true → sets_nothing line ≡ true
unfolding sets_nothing
blanks_set_nothing [] all = refl
blanks_set_nothing (b ∷ bs) all = let p = both_true (is_space b) (list_all is_space bs) all in rw (p.0) (blanks_set_nothing bs p.1)

comment_sets_nothing : (front rest : List ℕ) → list_all is_space front ≡ true → sets_nothing (front ++ 35 ∷ rest) ≡ true
unfolding sets_nothing
comment_sets_nothing [] rest all = refl
comment_sets_nothing (b ∷ bs) rest all = let p = both_true (is_space b) (list_all is_space bs) all in rw (p.0) (comment_sets_nothing bs rest p.1)

-- blanks, or blanks and a comment
abbrev SetsNothing : List ℕ → Type 0
SetsNothing line = (list_all is_space line ≡ true) ⊎ ((front : List ℕ) × (rest : List ℕ) × (line ≡ front ++ 35 ∷ rest) × (list_all is_space front ≡ true))

decided : (b : Bool) → (b ≡ true) ⊎ (b ≡ false)
decided true = inl refl
decided false = inr refl

nothing_is : (line : List ℕ) → sets_nothing line ≡ true → SetsNothing line
unfolding sets_nothing
nothing_is [] e = inl refl
nothing_is (b ∷ bs) e = elim (decided (is_space b)) [
  | inl h ↦ (elim (nothing_is bs (sym (rw h refl) ∙ e)) [
    | inl k ↦ inl (rw h k)
    | inr k ↦ inr (b ∷ k.0, k.1, ap (λ t. b ∷ t) k.2, rw h k.3)
  ])
  | inr h ↦ let e35 : (b == 35) ≡ true = sym (rw h refl) ∙ e in
      (elim (eqb_tells b 35) [
        | inl k ↦ inr ([], bs, ap (λ n. n ∷ bs) k.1, refl)
        | inr k ↦ absurd (true_is_false (sym e35 ∙ k.0))
      ])
]

-- ---- the word at the front

take_more : (b n : ℕ) (xs : List ℕ) → take (1 + n) (b ∷ xs) ≡ b ∷ take n xs
take_more b n xs = let e : 1 + n ≡ suc n = omega arith in ap (λ k. take k (b ∷ xs)) e

drop_more : (b n : ℕ) (xs : List ℕ) → drop (1 + n) (b ∷ xs) ≡ drop n xs
drop_more b n xs = let e : 1 + n ≡ suc n = omega arith in ap (λ k. drop k (b ∷ xs)) e

-- a word ends at the first byte that is in no word
name_front : (name rest : List ℕ) (stop : ℕ) → list_all is_word_byte name ≡ true → is_word_byte stop ≡ false → take (word_len (name ++ stop ∷ rest)) (name ++ stop ∷ rest) ≡ name
name_front [] rest stop name_ok stop_ok = rw stop_ok refl
name_front (b ∷ name) rest stop name_ok stop_ok =
    let p = both_true (is_word_byte b) (list_all is_word_byte name) name_ok in
    rw (p.0) (take_more b (prefix_len is_word_byte (name ++ stop ∷ rest)) (name ++ stop ∷ rest) ∙ ap (λ t. b ∷ t) (name_front name rest stop p.1 stop_ok))

name_rest : (name rest : List ℕ) (stop : ℕ) → list_all is_word_byte name ≡ true → is_word_byte stop ≡ false → drop (word_len (name ++ stop ∷ rest)) (name ++ stop ∷ rest) ≡ stop ∷ rest
name_rest [] rest stop name_ok stop_ok = rw stop_ok refl
name_rest (b ∷ name) rest stop name_ok stop_ok =
    let p = both_true (is_word_byte b) (list_all is_word_byte name) name_ok in
    rw (p.0) (drop_more b (prefix_len is_word_byte (name ++ stop ∷ rest)) (name ++ stop ∷ rest) ∙ name_rest name rest stop p.1 stop_ok)

some_len : (b : ℕ) (bs : List ℕ) → is_word_byte b ≡ true → (word_len (b ∷ bs) == 0) ≡ false
some_len b bs is = rw is (elim (eqb_tells (1 + prefix_len is_word_byte bs) 0) [ inl h ↦ absurd (omega (arith, h.1)) | inr h ↦ h.0 ])

pub word_at : (name rest : List ℕ) (stop : ℕ) → is_word name ≡ true → is_word_byte stop ≡ false → front_word (name ++ stop ∷ rest) ≡ Some (name, stop ∷ rest)
unfolding front_word
word_at [] rest stop ok stop_ok = absurd cc
word_at (b ∷ name) rest stop ok stop_ok =
    let p = both_true (is_word_byte b) (list_all is_word_byte name) ok in
    rw (some_len b (name ++ stop ∷ rest) p.0, name_front (b ∷ name) rest stop ok stop_ok, name_rest (b ∷ name) rest stop ok stop_ok) refl

all_word : (text : List ℕ) → list_all is_word_byte (take (word_len text) text) ≡ true
all_word [] = refl
all_word (b ∷ bs) = elim (decided (is_word_byte b)) [
  | inl h ↦ rw h (ap (λ t. list_all is_word_byte t) (take_more b (prefix_len is_word_byte bs) bs) ∙ rw h (all_word bs))
  | inr h ↦ rw h refl
]

a_word : (text : List ℕ) → (word_len text == 0) ≡ false → is_word (take (word_len text) text) ≡ true
a_word [] e = absurd (true_is_false e)
a_word (b ∷ bs) e = elim (decided (is_word_byte b)) [
  | inr h ↦ absurd (true_is_false (sym (rw h refl) ∙ e))
  | inl h ↦ rw h (ap is_word (take_more b (prefix_len is_word_byte bs) bs) ∙ rw h (all_word bs))
]

pair_inj : (x y : List ℕ × List ℕ) → Some x ≡ Some y → x ≡ y
pair_inj x y e = cc

pub word_back : (text : List ℕ) (p : List ℕ × List ℕ) → front_word text ≡ Some p → (is_word p.0 ≡ true) × (text ≡ p.0 ++ p.1)
unfolding front_word
word_back text p e = elim (decided (word_len text == 0)) [
  | inl h ↦ absurd (none_is_some p (sym (rw h refl) ∙ e))
  | inr h ↦
      let q : (take (word_len text) text, drop (word_len text) text) ≡ p = pair_inj (take (word_len text) text, drop (word_len text) text) p (sym (rw h refl) ∙ e) in
      (ap (λ r. is_word r.0) (sym q) ∙ a_word text h, sym (take-append-drop (word_len text) text) ∙ ap (λ r. r.0 ++ r.1) q)
]

-- ---- forms are read

option_joined : {A B : Type 0} (f : A → Option B) (o : Option A) (x : A) → o ≡ Some x → option_and_then f o ≡ f x
option_joined f o x is = ap (λ o. option_and_then f o) is

name_back : (name text : List ℕ) → rest_after_name name (name ++ (codes "=" ++ text)) ≡ Some text
unfolding rest_after
name_back name text = option_joined (rest_after (codes "=")) (rest_after name (name ++ 61 ∷ text)) (61 ∷ text) (rest_after-front name (61 ∷ text))

braced_at : (name w value : List ℕ) → IsWord true w value → default_setting name (name ++ (codes "=" ++ (w ++ codes "}"))) ≡ Some (Defaults name value)
unfolding default_setting
braced_at name w value is =
    ap (λ o. option_map (λ v. Defaults name v) (option_and_then (value_in true) (option_and_then before_brace o))) (name_back name (w ++ codes "}"))
    ∙ ap (λ o. option_map (λ v. Defaults name v) (option_and_then (value_in true) o)) (brace_back w)
    ∙ ap (λ o. option_map (λ v. Defaults name v) o) (word_read true w value is)

assignment_at : (name rest : List ℕ) → is_word name ≡ true → assignment (name ++ 61 ∷ rest) ≡ assigned_setting name rest
unfolding assignment rest_after
assignment_at name rest ok = ap (λ o. option_and_then (λ p. option_and_then (assigned_setting p.0) (rest_after (codes "=") p.1)) o) (word_at name rest 61 ok refl)

assigned_default : (name w value : List ℕ) → IsWord true w value → assigned_setting name (codes "${" ++ (name ++ (codes "=" ++ (w ++ codes "}")))) ≡ Some (Defaults name value)
unfolding assigned_setting rest_after
assigned_default name w value is = braced_at name w value is

-- no word begins like a default in braces
no_brace : (w value : List ℕ) → IsWord false w value → rest_after (codes "${") w ≡ None
unfolding rest_after
no_brace w value spelt.no_more = refl
no_brace w value (spelt.single quoted_text rest all is) = refl
no_brace w value (spelt.double quoted_text rest all is) = refl
no_brace w value (spelt.escaped is) = refl
no_brace w value (spelt.bare {b} {rest} {value = v} ok is) = elim (eqb_tells b 36) [
  | inl h ↦ absurd (true_is_false (sym ok ∙ ap (is_bare false) h.1))
  | inr h ↦ rw (h.0) refl
]

assigned_set : (name w value : List ℕ) → IsWord false w value → assigned_setting name w ≡ Some (Sets name value)
unfolding assigned_setting
assigned_set name w value is =
    ap (λ o. either o (default_setting name) (plain_setting name w)) (no_brace w value is) ∙ ap (λ o. option_map (λ v. Sets name v) o) (word_read false w value is)

guarded_at : (name w value middle : List ℕ) (stop : ℕ) → is_word name ≡ true → is_word_byte stop ≡ false → IsWord false w value
    → guarded_setting (stop ∷ middle) (name ++ ((stop ∷ middle) ++ (name ++ (codes "=" ++ w)))) ≡ Some (Defaults name value)
unfolding guarded_setting
guarded_at name w value middle stop ok stop_ok is =
    ap (λ o. option_and_then (λ p. option_map (λ v. Defaults p.0 v) (option_and_then (value_in false) (option_and_then (rest_after_name p.0) (rest_after (stop ∷ middle) p.1)))) o)
    (word_at name (middle ++ (name ++ (codes "=" ++ w))) stop ok stop_ok)
    ∙ ap (λ o. option_map (λ v. Defaults name v) (option_and_then (value_in false) (option_and_then (rest_after_name name) o))) (rest_after-front (stop ∷ middle) (name ++ (codes "=" ++ w)))
    ∙ ap (λ o. option_map (λ v. Defaults name v) (option_and_then (value_in false) o)) (name_back name w)
    ∙ ap (λ o. option_map (λ v. Defaults name v) o) (word_read false w value is)

-- ---- no form begins like another

word_apart : (b n : ℕ) → is_word_byte b ≡ true → is_word_byte n ≡ false → (b == n) ≡ false
word_apart b n word other = elim (eqb_tells b n) [ inl h ↦ absurd (true_is_false (sym word ∙ ap is_word_byte h.1 ∙ other)) | inr h ↦ h.0 ]

word_apart_back : (b n : ℕ) → is_word_byte b ≡ true → is_word_byte n ≡ false → (n == b) ≡ false
word_apart_back b n word other = elim (eqb_tells n b) [ inl h ↦ absurd (true_is_false (sym word ∙ ap is_word_byte (sym h.1) ∙ other)) | inr h ↦ h.0 ]

-- a name and `=` don't begin with a word and a blank
no_front : (w more name rest : List ℕ) → list_all is_word_byte w ≡ true → list_all is_word_byte name ≡ true → rest_after (w ++ 32 ∷ more) (name ++ 61 ∷ rest) ≡ None
unfolding rest_after
no_front [] more [] rest w_ok name_ok = refl
no_front [] more (b ∷ name) rest w_ok name_ok = rw (word_apart b 32 (both_true (is_word_byte b) (list_all is_word_byte name) name_ok).0 refl) refl
no_front (f ∷ w) more [] rest w_ok name_ok = rw (word_apart_back f 61 (both_true (is_word_byte f) (list_all is_word_byte w) w_ok).0 refl) refl
no_front (f ∷ w) more (b ∷ name) rest w_ok name_ok = elim (eqb_tells b f) [
  | inl h ↦ rw (h.0) (no_front w more name rest (both_true (is_word_byte f) (list_all is_word_byte w) w_ok).1 (both_true (is_word_byte b) (list_all is_word_byte name) name_ok).1)
  | inr h ↦ rw (h.0) refl
]

word_sets : (b : ℕ) (bs : List ℕ) → is_word_byte b ≡ true → sets_nothing (b ∷ bs) ≡ false
unfolding sets_nothing
word_sets b bs word = rw (word_apart b 32 word refl, word_apart b 9 word refl, word_apart b 35 word refl) refl

-- a line that begins with a name and `=` is an assignment
line_is_assignment : (name rest : List ℕ) → is_word name ≡ true → line_of (name ++ 61 ∷ rest) ≡ option_map (λ s. Some s) (assigned_setting name rest)
unfolding line_of setting_of
line_is_assignment [] rest ok = absurd (true_is_false (sym ok))
line_is_assignment (b ∷ name) rest ok =
    rw (
      word_sets b (name ++ 61 ∷ rest) (both_true (is_word_byte b) (list_all is_word_byte name) ok).0,
      no_front (codes "test") (codes "${") (b ∷ name) rest refl ok,
      no_front (codes "test") (codes "\"${") (b ∷ name) rest refl ok,
    ) (ap (λ o. option_map (λ s. Some s) o) (assignment_at (b ∷ name) rest ok))

line_without_setting : (line : List ℕ) → sets_nothing line ≡ true → line_of line ≡ Some None
unfolding line_of
line_without_setting line is = rw is refl

-- a line of a form is read as what it says
pub line_read : (line : List ℕ) (setting : Option Setting) → IsLine line setting → line_of line ≡ Some setting
unfolding line_of setting_of sets_nothing rest_after
line_read line setting (form.blanks all) = line_without_setting line (blanks_set_nothing line all)
line_read line setting (form.comment front rest all) = line_without_setting (front ++ 35 ∷ rest) (comment_sets_nothing front rest all)
line_read line setting (form.braced name w {value} ok is) =
    line_is_assignment name (36 ∷ 123 ∷ (name ++ (codes "=" ++ (w ++ codes "}")))) ok ∙ ap (λ o. option_map (λ s. Some s) o) (assigned_default name w value is)
line_read line setting (form.set name w {value} ok is) =
    line_is_assignment name w ok ∙ ap (λ o. option_map (λ s. Some s) o) (assigned_set name w value is)
line_read line setting (form.guarded name w {value} ok is) = ap (λ o. option_map (λ s. Some s) o) (guarded_at name w value (codes "y} || ") 43 ok refl is)
line_read line setting (form.old_guarded name w {value} ok is) = ap (λ o. option_map (λ s. Some s) o) (guarded_at name w value (codes "set}\" = set || ") 43 ok refl is)

-- ---- what is read has a form

carried : (s t : List ℕ) (o p : Option Setting) → s ≡ t → o ≡ p → IsLine s o → IsLine t p
carried s t o p e f l = subst (λ x. IsLine x p) e (subst (λ y. IsLine s y) f l)

joined_back : {A B : Type 0} (f : A → Option B) (o : Option A) (y : B) → option_and_then f o ≡ Some y → (x : A) × (o ≡ Some x) × (f x ≡ Some y)
joined_back f None y is = absurd (none_is_some y is)
joined_back f (Some x) y is = (x, refl, is)

setting_inj : (x y : Setting) → Some x ≡ Some y → x ≡ y
setting_inj x y e = cc

setting_back : (f : List ℕ → Setting) (o : Option (List ℕ)) (s : Setting) → option_map f o ≡ Some s → (v : List ℕ) × (o ≡ Some v) × (f v ≡ s)
setting_back f None s is = absurd (none_is_some s is)
setting_back f (Some v) s is = (v, refl, setting_inj (f v) s is)

name_split : (name text rest : List ℕ) → rest_after_name name text ≡ Some rest → text ≡ name ++ 61 ∷ rest
name_split name text rest is =
    let p = joined_back (rest_after (codes "=")) (rest_after name text) rest is in
    front-rest_after name text p.0 p.1 ∙ ap (λ t. name ++ t) (front-rest_after (codes "=") p.0 rest p.2)

braced_is : (name text : List ℕ) (s : Setting) → is_word name ≡ true → default_setting name text ≡ Some s → IsLine (name ++ (codes "=${" ++ text)) (Some s)
unfolding default_setting
braced_is name text s ok is =
    let p = setting_back (λ v. Defaults name v) (option_and_then (value_in true) (option_and_then before_brace (rest_after_name name text))) s is in
    let q = joined_back (value_in true) (option_and_then before_brace (rest_after_name name text)) p.0 p.1 in
    let r = joined_back before_brace (rest_after_name name text) q.0 q.1 in
    let e : name ++ (codes "=" ++ (q.0 ++ codes "}")) ≡ text = sym (name_split name text r.0 r.1 ∙ ap (λ t. name ++ 61 ∷ t) (brace_front r.0 q.0 r.2)) in
    carried (name ++ (codes "=${" ++ (name ++ (codes "=" ++ (q.0 ++ codes "}"))))) (name ++ (codes "=${" ++ text)) (Some (Defaults name p.0)) (Some s)
    (ap (λ t. name ++ (codes "=${" ++ t)) e) (ap (λ t. Some t) p.2) (form.braced name q.0 ok (word_is true q.0 p.0 q.2))

set_is : (name text : List ℕ) (s : Setting) → is_word name ≡ true → plain_setting name text ≡ Some s → IsLine (name ++ 61 ∷ text) (Some s)
set_is name text s ok is =
    let p = setting_back (λ v. Sets name v) (value_in false text) s is in
    carried (name ++ 61 ∷ text) (name ++ 61 ∷ text) (Some (Sets name p.0)) (Some s) refl (ap (λ t. Some t) p.2) (form.set name text ok (word_is false text p.0 p.1))

either_back : {A B : Type 0} (o : Option A) (f : A → Option B) (other : Option B) (y : B) → either o f other ≡ Some y
    → ((x : A) × (o ≡ Some x) × (f x ≡ Some y)) ⊎ (other ≡ Some y)
either_back None f other y is = inr is
either_back (Some x) f other y is = inl (x, refl, is)

assigned_is : (name text : List ℕ) (s : Setting) → is_word name ≡ true → assigned_setting name text ≡ Some s → IsLine (name ++ 61 ∷ text) (Some s)
unfolding assigned_setting
assigned_is name text s ok is = elim (either_back (rest_after (codes "${") text) (default_setting name) (plain_setting name text) s is) [
  | inl h ↦ carried (name ++ (codes "=${" ++ h.0)) (name ++ 61 ∷ text) (Some s) (Some s) (ap (λ t. name ++ 61 ∷ t) (sym (front-rest_after (codes "${") text h.0 h.1))) refl (braced_is name h.0 s ok h.2)
  | inr h ↦ set_is name text s ok h
]

assignment_is : (line : List ℕ) (s : Setting) → assignment line ≡ Some s → IsLine line (Some s)
unfolding assignment
assignment_is line s is =
    let p = joined_back (λ p. option_and_then (assigned_setting p.0) (rest_after (codes "=") p.1)) (front_word line) s is in
    let q = joined_back (assigned_setting p.0.0) (rest_after (codes "=") p.0.1) s p.2 in
    let w = word_back line p.0 p.1 in
    carried (p.0.0 ++ 61 ∷ q.0) line (Some s) (Some s) (sym (w.1 ∙ ap (λ t. p.0.0 ++ t) (front-rest_after (codes "=") p.0.1 q.0 q.1))) refl (assigned_is p.0.0 q.0 s w.0 q.2)

-- the parts of a line with a test
record Guarded (middle text : List ℕ) (s : Setting) : Type 0 where
  name : List ℕ
  w : List ℕ
  value : List ℕ
  ok : is_word name ≡ true
  is : IsWord false w value
  text_is : name ++ (middle ++ (name ++ 61 ∷ w)) ≡ text
  setting_is : Defaults name value ≡ s

guarded_text : (middle text name rest more w : List ℕ) → text ≡ name ++ rest → rest ≡ middle ++ more → more ≡ name ++ 61 ∷ w → name ++ (middle ++ (name ++ 61 ∷ w)) ≡ text
guarded_text middle text name rest more w front e f = sym (front ∙ ap (λ u. name ++ u) (e ∙ ap (λ u. middle ++ u) f))

guarded_is : (middle text : List ℕ) (s : Setting) → guarded_setting middle text ≡ Some s → Guarded middle text s
unfolding guarded_setting
guarded_is middle text s is =
    let p = joined_back (λ p. option_map (λ v. Defaults p.0 v) (option_and_then (value_in false) (option_and_then (rest_after_name p.0) (rest_after middle p.1)))) (front_word text) s is in
    let q = setting_back (λ v. Defaults p.0.0 v) (option_and_then (value_in false) (option_and_then (rest_after_name p.0.0) (rest_after middle p.0.1))) s p.2 in
    let r = joined_back (value_in false) (option_and_then (rest_after_name p.0.0) (rest_after middle p.0.1)) q.0 q.1 in
    let t = joined_back (rest_after_name p.0.0) (rest_after middle p.0.1) r.0 r.1 in
    let f = word_back text p.0 p.1 in
    record {
      name = p.0.0;
      w = r.0;
      value = q.0;
      ok = f.0;
      is = word_is false r.0 q.0 r.2;
      text_is = guarded_text middle text p.0.0 p.0.1 t.0 r.0 f.1 (front-rest_after middle p.0.1 t.0 t.1) (name_split p.0.0 t.0 r.0 t.2);
      setting_is = q.2;
    }

setting_is : (line : List ℕ) (s : Setting) → setting_of line ≡ Some s → IsLine line (Some s)
unfolding setting_of
setting_is line s is = elim (either_back (rest_after (codes "test ${") line) (guarded_setting (codes "+y} || ")) (either (rest_after (codes "test \"${") line) (guarded_setting (codes "+set}\" = set || ")) (assignment line)) s is) [
  | inl h ↦
      let t = guarded_is (codes "+y} || ") h.0 s h.2 in
      carried (codes "test ${" ++ (t.name ++ (codes "+y} || " ++ (t.name ++ (codes "=" ++ t.w))))) line (Some (Defaults t.name t.value)) (Some s)
      (ap (λ u. codes "test ${" ++ u) t.text_is ∙ sym (front-rest_after (codes "test ${") line h.0 h.1)) (ap (λ u. Some u) t.setting_is) (form.guarded t.name t.w t.ok t.is)
  | inr k ↦ (elim (either_back (rest_after (codes "test \"${") line) (guarded_setting (codes "+set}\" = set || ")) (assignment line) s k) [
    | inl h ↦
        let t = guarded_is (codes "+set}\" = set || ") h.0 s h.2 in
        carried (codes "test \"${" ++ (t.name ++ (codes "+set}\" = set || " ++ (t.name ++ (codes "=" ++ t.w))))) line (Some (Defaults t.name t.value)) (Some s)
        (ap (λ u. codes "test \"${" ++ u) t.text_is ∙ sym (front-rest_after (codes "test \"${") line h.0 h.1)) (ap (λ u. Some u) t.setting_is) (form.old_guarded t.name t.w t.ok t.is)
    | inr h ↦ assignment_is line s h
  ])
]

optional_inj : (x y : Option Setting) → Some x ≡ Some y → x ≡ y
optional_inj x y e = cc

some_back : (o : Option Setting) (setting : Option Setting) → option_map (λ s. Some s) o ≡ Some setting → (s : Setting) × (o ≡ Some s) × (Some s ≡ setting)
some_back None setting is = absurd (none_is_some setting is)
some_back (Some s) setting is = (s, refl, optional_inj (Some s) setting is)

-- a line that is read has a form
pub line_is : (line : List ℕ) (setting : Option Setting) → line_of line ≡ Some setting → IsLine line setting
unfolding line_of
line_is line setting is = elim (decided (sets_nothing line)) [
  | inl h ↦
      let e : None ≡ setting = optional_inj None setting (sym (rw h refl) ∙ is) in
      (elim (nothing_is line h) [
        | inl k ↦ subst (λ o. IsLine line o) e (form.blanks k)
        | inr k ↦ carried (k.0 ++ 35 ∷ k.1) line None setting (sym k.2) e (form.comment k.0 k.1 k.3)
      ])
  | inr h ↦
      let p = some_back (setting_of line) setting (sym (rw h refl) ∙ is) in
      subst (λ o. IsLine line o) p.2 (setting_is line p.0 p.1)
]
