-- One setting more.
use Rattle.std.proofs.Common.{◌≡◌, ℕ, ◌+◌, ◌<◌, Bool, true, false, List, [], ◌∷◌, ◌++◌, Option, ◌⊎◌, inl, inr, length, take, get_or, refl, sym, ap, ◌∙◌}
use Rattle.std.specs.Prelude.{is_some, bytes_eq, if◌then◌else◌}
use Rattle.std.proofs.lemmas.List.{take_more}
use Rattle.std.proofs.lemmas.Slice.Eq.{bytes_eq-Decides}
use Rattle.deftable.specs.Table.{value_of, with_entry}
use Rattle.deftable.proofs.Tables.{value_of-with_entry}
use Rattle.cachefile.specs.Line.{Setting, Sets, Defaults, name_of}
use Rattle.cachefile.specs.Name.{is_mark}
use Rattle.cachefile.specs.Cache.{with_setting, vars_after, value_after, marks_after, HaveSameMarks}

pub decided : (b : Bool) → (b ≡ true) ⊎ (b ≡ false)
decided true = inl refl
decided false = inr refl

default_kept : (vars : List (List ℕ × List ℕ)) (name value q : List ℕ) → is_some (value_of vars name) ≡ true → value_of vars q ≡ value_after q (value_of vars q) (Defaults name value)
default_kept vars name value q set = elim (decided (bytes_eq q name)) [
  | inl h ↦ let e : is_some (value_of vars q) ≡ true = ap (λ n. is_some (value_of vars n)) ((bytes_eq-Decides q name).0 h) ∙ set in rw (h, e) refl
  | inr h ↦ rw h refl
]

default_set : (vars : List (List ℕ × List ℕ)) (name value q : List ℕ) → is_some (value_of vars name) ≡ false → value_of (with_entry vars name value) q ≡ value_after q (value_of vars q) (Defaults name value)
default_set vars name value q unset = value_of-with_entry vars name value q ∙ (elim (decided (bytes_eq q name)) [
  | inl h ↦ let e : is_some (value_of vars q) ≡ false = ap (λ n. is_some (value_of vars n)) ((bytes_eq-Decides q name).0 h) ∙ unset in rw (h, e) refl
  | inr h ↦ rw h refl
])

-- the value of a name after a setting
pub value_of-with_setting : (vars : List (List ℕ × List ℕ)) (s : Setting) (q : List ℕ) → value_of (with_setting vars s) q ≡ value_after q (value_of vars q) s
value_of-with_setting vars (Sets name value) q = value_of-with_entry vars name value q
value_of-with_setting vars (Defaults name value) q = elim (decided (is_some (value_of vars name))) [
  | inl h ↦ ap (λ b. value_of (if b then vars else with_entry vars name value) q) h ∙ default_kept vars name value q h
  | inr h ↦ ap (λ b. value_of (if b then vars else with_entry vars name value) q) h ∙ default_set vars name value q h
]

settings_last : (vars : List (List ℕ × List ℕ)) (xs : List Setting) (x : Setting) → vars_after (xs ++ x ∷ []) vars ≡ with_setting (vars_after xs vars) x
settings_last vars [] x = refl
settings_last vars (y ∷ xs) x = settings_last (with_setting vars y) xs x

pub would_more : (vars : List (List ℕ × List ℕ)) (xs : List Setting) (q : List ℕ) (before after : Option (List ℕ)) (i : ℕ) (x : Setting) (items : List Setting) → items ≡ xs → i < length xs
    → x ≡ get_or items i x → after ≡ value_after q before x → before ≡ value_of (vars_after (take i xs) vars) q → after ≡ value_of (vars_after (take (i + 1) xs) vars) q
would_more vars xs q before after i x items same lt there is h =
    let at : x ≡ get_or xs i x = there ∙ ap (λ ys. get_or ys i x) same in
    is ∙ ap (λ o. value_after q o x) h ∙ sym (value_of-with_setting (vars_after (take i xs) vars) x q)
    ∙ ap (λ vs. value_of vs q) (sym (settings_last vars (take i xs) x) ∙ ap (λ t. vars_after t vars) (ap (λ y. take i xs ++ y ∷ []) at ∙ sym (take_more xs i x lt)))

-- ---- the settings of marks alone

true_is_false : true ≡ false → ⊥
true_is_false e = absurd cc

mark_of_other : (vars : List (List ℕ × List ℕ)) (s : Setting) (q : List ℕ) → is_mark q ≡ true → is_mark (name_of s) ≡ false → value_of (with_setting vars s) q ≡ value_of vars q
mark_of_other vars s q mark other = value_of-with_setting vars s q ∙ kept s (differs (name_of s) other) where
  differs : (name : List ℕ) → is_mark name ≡ false → bytes_eq q name ≡ false
  differs name is = elim (decided (bytes_eq q name)) [
    | inl h ↦ absurd (true_is_false (sym mark ∙ ap is_mark ((bytes_eq-Decides q name).0 h) ∙ is))
    | inr h ↦ h
  ]

  kept : (s : Setting) → bytes_eq q (name_of s) ≡ false → value_after q (value_of vars q) s ≡ value_of vars q
  kept (Sets name value) h = rw h refl
  kept (Defaults name value) h = rw h refl

marks_agree : (settings : List Setting) (a b : List (List ℕ × List ℕ)) (q : List ℕ) → is_mark q ≡ true → value_of a q ≡ value_of b q → value_of (marks_after settings a) q ≡ value_of (vars_after settings b) q
marks_agree [] a b q mark same = same
marks_agree (s ∷ settings) a b q mark same = elim (decided (is_mark (name_of s))) [
  | inl h ↦
      rw h (marks_agree settings (with_setting a s) (with_setting b s) q mark
      (value_of-with_setting a s q ∙ ap (λ o. value_after q o s) same ∙ sym (value_of-with_setting b s q)))
  | inr h ↦ rw h (marks_agree settings a (with_setting b s) q mark (same ∙ sym (mark_of_other b s q mark h)))
]

pub marks_same : (settings : List Setting) (vars after : List (List ℕ × List ℕ)) → after ≡ marks_after settings vars → HaveSameMarks after (vars_after settings vars)
unfolding HaveSameMarks
marks_same settings vars after is q mark = ap (λ vs. value_of vs q) is ∙ marks_agree settings vars vars q mark refl
