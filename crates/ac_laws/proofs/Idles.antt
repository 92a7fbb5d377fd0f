-- Bare text has no effect exactly if its value is blanks and comments alone.
use Rattle.std.proofs.Common.{◌≡◌, ◌↔◌, ◌⊎◌, inl, inr, ◌==◌, ◌&&◌, ◌||◌, Bool, true, false, cond, not, ℕ, List, [], ◌∷◌, ◌++◌, Option, Some, None, Result, Ok, Err, refl, sym, ap, subst, ◌∙◌}
use Rattle.std.specs.List.{list_all}
use Rattle.std.proofs.lemmas.Bool.{and_parts}
use Rattle.std.proofs.lemmas.Bool.Decides.{Decides-eqb}
use Rattle.text_cut.specs.Cuts.{is_blank}
use Rattle.m4quote.specs.declared.fault.QuoteFault.{QuoteFault}
use Rattle.m4quote.specs.Scan.{bare_value_of}
use Rattle.m4quote.specs.Used.{IsBareValue}
use Rattle.m4quote.proofs.Laws.{bare_value_is_value}
use Rattle.ac_statement.specs.Idle.{after_byte, is_idle, is_idle_from, is_idle_value}
use Rattle.ac_laws.specs.Signs.{newline}
use Rattle.ac_laws.specs.Position.{number_sign}
use Rattle.ac_laws.specs.Idle.{AreBlanks, IsOneLine, IsIdle, blanks, last_comment, comment, IdleHasNoEffect}

-- ---- from bytes to blanks and comments

-- The rest of a comment: one line, and the text after it.
data InComment : List ℕ → Type 0 where
  to_end : {line : List ℕ} → IsOneLine line → InComment line
  to_newline : (line rest : List ℕ) → IsOneLine line → IsIdle rest → InComment (line ++ newline ∷ rest)

both : {a c : Bool} → a ≡ true → c ≡ true → (a && c) ≡ true
both {a} {c} e h = ap (λ x. x && c) e ∙ h

blank_first : (b : ℕ) {bs : List ℕ} → is_blank b ≡ true → IsIdle bs → IsIdle (b ∷ bs)
blank_first b is (blanks h) = blanks (both is h)
blank_first b is (last_comment before line h k) = last_comment (b ∷ before) line (both is h) k
blank_first b is (comment before line rest h k later) = comment (b ∷ before) line rest (both is h) k later

line_first : (b : ℕ) {bs : List ℕ} → not (b == newline) ≡ true → InComment bs → InComment (b ∷ bs)
line_first b is (to_end h) = to_end (both is h)
line_first b is (to_newline line rest h later) = to_newline (b ∷ line) rest (both is h) later

comment_first : {bs : List ℕ} → InComment bs → IsIdle (number_sign ∷ bs)
comment_first (to_end {line = line} h) = last_comment [] line refl h
comment_first (to_newline line rest h later) = comment [] line rest refl h later

-- What a run of the reader's test says, in a comment or outside.
abbrev Says : Bool → List ℕ → Type 0
Says true text = InComment text
Says false text = IsIdle text

says : (c : Bool) (text : List ℕ) → is_idle_from c text ≡ true → Says c text
unfolding is_idle_from
says true [] e = to_end refl
says false [] e = blanks refl
says true (b ∷ bs) e = at (b == newline) refl e (says false bs) (says true bs) where
  at : (t : Bool) → (b == newline) ≡ t → is_idle_from (not t) bs ≡ true → (is_idle_from false bs ≡ true → IsIdle bs) → (is_idle_from true bs ≡ true → InComment bs) → InComment (b ∷ bs)
  at true is h idle more = subst (λ n. InComment (n ∷ bs)) (sym ((Decides-eqb b newline).0 is)) (to_newline [] bs refl (idle h))
  at false is h idle more = line_first b (ap not is) (more h)
says false (b ∷ bs) e = at (b == number_sign) refl (is_blank b) refl e (says false bs) (says true bs) where
  at : (t : Bool) → (b == number_sign) ≡ t → (u : Bool) → is_blank b ≡ u
      → (elim (cond t (Some true) (cond u (Some false) None)) as (λ o. Bool) [ Some next ↦ is_idle_from next bs | None ↦ false ]) ≡ true
      → (is_idle_from false bs ≡ true → IsIdle bs) → (is_idle_from true bs ≡ true → InComment bs) → IsIdle (b ∷ bs)
  at true is u blank h idle more = subst (λ n. IsIdle (n ∷ bs)) (sym ((Decides-eqb b number_sign).0 is)) (comment_first (more h))
  at false is true blank h idle more = blank_first b blank (idle h)
  at false is false blank h idle more = absurd (cc)

-- ---- and back

no_sign : (b : ℕ) → is_blank b ≡ true → (b == number_sign) ≡ false
no_sign b h = at (b == number_sign) refl where
  at : (t : Bool) → (b == number_sign) ≡ t → t ≡ false
  at true is = absurd (let blank : false ≡ true = ap is_blank (sym ((Decides-eqb b number_sign).0 is)) ∙ h in cc)
  at false is = refl

after_blanks : (before rest : List ℕ) → AreBlanks before → is_idle_from false (before ++ rest) ≡ is_idle_from false rest
unfolding is_idle_from
after_blanks [] rest h = refl
after_blanks (b ∷ before) rest h =
    let parts = and_parts (is_blank b) (list_all is_blank before) h in
    ap (λ t. elim (cond t (Some true) (cond (is_blank b) (Some false) None)) as (λ o. Bool) [ Some next ↦ is_idle_from next (before ++ rest) | None ↦ false ]) (no_sign b parts.0)
    ∙ ap (λ u. elim (cond u (Some false) None) as (λ o. Bool) [ Some next ↦ is_idle_from next (before ++ rest) | None ↦ false ]) parts.0
    ∙ after_blanks before rest parts.1

after_line : (line rest : List ℕ) → IsOneLine line → is_idle_from true (line ++ rest) ≡ is_idle_from true rest
unfolding is_idle_from
after_line [] rest h = refl
after_line (b ∷ line) rest h =
    let parts = and_parts (not (b == newline)) (list_all (λ b. not (b == newline)) line) h in
    ap (λ t. is_idle_from t (line ++ rest)) parts.0 ∙ after_line line rest parts.1

all_blanks : (text : List ℕ) → AreBlanks text → is_idle_from false text ≡ true
unfolding is_idle_from
all_blanks [] h = refl
all_blanks (b ∷ bs) h =
    let parts = and_parts (is_blank b) (list_all is_blank bs) h in
    ap (λ t. elim (cond t (Some true) (cond (is_blank b) (Some false) None)) as (λ o. Bool) [ Some next ↦ is_idle_from next bs | None ↦ false ]) (no_sign b parts.0)
    ∙ ap (λ u. elim (cond u (Some false) None) as (λ o. Bool) [ Some next ↦ is_idle_from next bs | None ↦ false ]) parts.0
    ∙ all_blanks bs parts.1

one_line : (line : List ℕ) → IsOneLine line → is_idle_from true line ≡ true
unfolding is_idle_from
one_line [] h = refl
one_line (b ∷ line) h =
    let parts = and_parts (not (b == newline)) (list_all (λ b. not (b == newline)) line) h in
    ap (λ t. is_idle_from t line) parts.0 ∙ one_line line parts.1

idle_passes : {text : List ℕ} → IsIdle text → is_idle_from false text ≡ true
unfolding is_idle_from
idle_passes (blanks {text = text} h) = all_blanks text h
idle_passes (last_comment before line h k) = after_blanks before (number_sign ∷ line) h ∙ one_line line k
idle_passes (comment before line rest h k later) =
    after_blanks before (number_sign ∷ (line ++ newline ∷ rest)) h ∙ after_line line (newline ∷ rest) k ∙ idle_passes later

pub idle_has_no_effect : IdleHasNoEffect
unfolding is_idle
idle_has_no_effect text = (λ e. to (bare_value_of text) refl e, λ h. ap is_idle_value ((bare_value_is_value text h.0).1 h.1) ∙ idle_passes h.2) where
  to : (r : Result (List ℕ) QuoteFault) → bare_value_of text ≡ r → is_idle_value r ≡ true → (value : List ℕ) × IsBareValue text value × IsIdle value
  to (Ok value) read e = (value, (bare_value_is_value text value).0 read, says false value e)
  to (Err f) read e = absurd (cc)
