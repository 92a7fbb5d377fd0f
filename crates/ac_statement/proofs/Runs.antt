-- One quoted run: the counter of open brackets agrees with `Balanced`.
use Rattle.std.proofs.Common.{◌≡◌, ℕ, zero, suc, ◌+◌, ◌-◌, ◌≤◌, Bool, true, false, cond, eqb, ne_eqb, ◌⊎◌, inl, inr, List, [], ◌∷◌, ◌++◌, length, take, drop, reverse, Option, Some, None, Result, Ok, refl, sym, ap, subst, ◌∙◌, append_assoc, arith}
use Rattle.std.specs.Prelude.{nat_lt}
use Rattle.std.proofs.lemmas.Bool.{eqb-true, lt-ltb}
use Rattle.std.proofs.lemmas.List.{length-append, length-take-le, take-append-drop, reverse-append, reverse-reverse}
use Rattle.std.proofs.lemmas.List.Folds.{list_all-append}
use Rattle.std.proofs.lemmas.List.Sums.{prefix_len-le-length}
use Rattle.std.proofs.Math.Seq.{take-append_seam}
use Rattle.text_cut.specs.Cuts.{is_blank, front_trimmed, trimmed}
use Rattle.m4quote.specs.ItemValue.{Span}
use Rattle.m4quote.specs.Spelling.{Balanced, empty, byte, group}
use Rattle.m4quote.specs.Scan.{closing}
use Rattle.m4quote.specs.declared.fault.QuoteFault.{QuoteFault}
use Rattle.m4quote.proofs.Quotes.{closing-closes}
use Rattle.ac_statement.specs.Texts.{is_all_blank}
use Rattle.ac_statement.specs.Inside.{closes_at_end, is_run, blank_len, body, run_inside}
use Rattle.ac_statement.specs.Standing.{IsRun}

pub either : (b : Bool) → (b ≡ true) ⊎ (b ≡ false)
either true = inl refl
either false = inr refl

abbrev done : ℕ → Result ℕ QuoteFault
done n = Ok n

abbrev some : Span → Option Span
some s = Some s

abbrev missing : Option Span
missing = None

-- The span that is found.
found_is : (s t : Span) → some s ≡ some t → s ≡ t
found_is s t e = cc

none_is : (s : Span) → missing ≡ some s → ⊥
none_is s e = cc

-- ---- the counter

some_open : (depth : ℕ) → nat_lt 0 (suc depth) ≡ true
some_open depth = lt-ltb 0 (suc depth) (omega arith)

step_open : (depth : ℕ) (t : List ℕ) → closes_at_end (suc depth) (91 ∷ t) ≡ closes_at_end (suc (suc depth)) t
step_open depth t = rw (some_open depth) (ap (λ d. closes_at_end d t) (let e : suc depth + 1 ≡ suc (suc depth) = omega arith in e))

step_close : (depth : ℕ) (t : List ℕ) → closes_at_end (suc depth) (93 ∷ t) ≡ closes_at_end depth t
step_close depth t = rw (some_open depth) (ap (λ d. closes_at_end d t) (let e : suc depth - 1 ≡ depth = omega arith in e))

step_byte : (depth b : ℕ) (t : List ℕ) → eqb b 91 ≡ false → eqb b 93 ≡ false → closes_at_end (suc depth) (b ∷ t) ≡ closes_at_end (suc depth) t
step_byte depth b t opens closes = rw (some_open depth, opens, closes) refl

passed_over : {room : ℕ} {inside : List ℕ} → Balanced room inside → (depth : ℕ) (rest : List ℕ) → closes_at_end (suc depth) (inside ++ rest) ≡ closes_at_end (suc depth) rest
passed_over empty depth rest = refl
passed_over (byte {room} {b} {text} opens closes more) depth rest = step_byte depth b (text ++ rest) (ne_eqb b 91 opens) (ne_eqb b 93 closes) ∙ passed_over more depth rest
passed_over (group {room} {inside} {text} within more) depth rest =
    step_open depth ((inside ++ 93 ∷ text) ++ rest)
    ∙ ap (closes_at_end (suc (suc depth))) (append_assoc inside (93 ∷ text) rest)
    ∙ passed_over within (suc depth) (93 ∷ (text ++ rest))
    ∙ step_close (suc depth) (text ++ rest)
    ∙ passed_over more depth rest

pub run-is : {room : ℕ} {inside : List ℕ} → Balanced room inside → is_run (91 ∷ (inside ++ 93 ∷ [])) ≡ true
run-is {room} {inside} balanced = passed_over balanced 0 (93 ∷ [])

ended : (bs : List ℕ) → closes_at_end 0 bs ≡ true → bs ≡ []
ended [] h = refl
ended (b ∷ bs) h = absurd cc

closes-closing : (depth total n : ℕ) (bs : List ℕ) → suc depth + length bs ≤ total → closes_at_end (suc depth) bs ≡ true → closing 0 total (suc depth) n bs ≡ Ok (n + length bs)
closes-closing depth total n [] le h = absurd (let e = eqb-true (suc depth) 0 h in omega arith)
closes-closing depth total n (b ∷ bs) le h =
    elim (either (eqb b 91)) [
      | inl opens ↦
          (let deeper : closes_at_end (suc (suc depth)) bs ≡ true = sym (step_open depth bs) ∙ ap (λ (x : ℕ). closes_at_end (suc depth) (x ∷ bs)) (sym (eqb-true b 91 opens)) ∙ h in
          rw (opens, ne_eqb (suc depth) total (λ e. omega (arith, e)))
          (ap (λ d. closing 0 total d (n + 1) bs) (let e : suc depth + 1 ≡ suc (suc depth) = omega arith in e)
          ∙ closes-closing (suc depth) total (n + 1) bs (omega arith) deeper ∙ along bs))
      | inr other ↦
          (elim (either (eqb b 93)) [
            | inl closes ↦
                (let less : closes_at_end depth bs ≡ true = sym (step_close depth bs) ∙ ap (λ (x : ℕ). closes_at_end (suc depth) (x ∷ bs)) (sym (eqb-true b 93 closes)) ∙ h in
                rw (other, closes) (at_close depth bs le less (λ d. closes-closing d total (n + 1) bs)))
            | inr plain ↦
                rw (other, plain) (closes-closing depth total (n + 1) bs (omega arith) (sym (step_byte depth b bs other plain) ∙ h) ∙ along bs)
          ])
    ]
  where
    along : (bs : List ℕ) → done (n + 1 + length bs) ≡ done (n + suc (length bs))
    along bs = ap (λ k. done k) (let e : n + 1 + length bs ≡ n + suc (length bs) = omega arith in e)

    at_close : (depth : ℕ) (bs : List ℕ) → suc depth + suc (length bs) ≤ total → closes_at_end depth bs ≡ true
        → ((d : ℕ) → suc d + length bs ≤ total → closes_at_end (suc d) bs ≡ true → closing 0 total (suc d) (n + 1) bs ≡ Ok (n + 1 + length bs))
        → cond (eqb (suc depth) 1) (Ok (n + 1)) (closing 0 total (suc depth - 1) (n + 1) bs) ≡ Ok (n + suc (length bs))
    at_close zero bs le h later = let none = ap length (ended bs h) in ap (λ k. done k) (omega (arith, none))
    at_close (suc d) bs le h later =
        let less : suc (suc d) - 1 ≡ suc d = omega arith in
        rw (ne_eqb (suc (suc d)) 1 (λ e. omega (arith, e)))
        (ap (λ k. closing 0 total k (n + 1) bs) less ∙ later d (omega arith) h ∙ along bs)

-- A run has a balanced inside.
abbrev pub Inside : List ℕ → Type 0
Inside text = (room : ℕ) × (inside : List ℕ) × Balanced room inside × (text ≡ 91 ∷ (inside ++ 93 ∷ []))

pub is-run : (text : List ℕ) → is_run text ≡ true → Inside text
is-run [] h = absurd cc
is-run (b ∷ bs) h =
    elim (either (eqb b 91)) [
      | inr other ↦ absurd (let e : false ≡ true = rw other at h in cc)
      | inl opens ↦
          (let total : ℕ = 1 + length bs in
          let read : closing 0 total 1 0 bs ≡ Ok (0 + length bs) = closes-closing 0 total 0 bs (omega arith) (rw opens at h) in
          let c = closing-closes 0 total (length bs) 0 0 bs (0 + length bs) (omega arith) read in
          let none : c.1.1 ≡ [] = nothing_left c.1.1 (omega (arith, ap length c.1.3, length-append c.1.0 (93 ∷ c.1.1), c.2, c.1.6, c.1.5)) in
          (length bs, c.1.0, c.1.4, ap (λ (x : ℕ). x ∷ bs) (eqb-true b 91 opens) ∙ ap (λ (t : List ℕ). 91 ∷ t) (c.1.3 ∙ ap (λ (t : List ℕ). c.1.0 ++ 93 ∷ t) none)))
    ]
  where
    nothing_left : (t : List ℕ) → length t ≡ 0 → t ≡ []
    nothing_left [] z = refl
    nothing_left (x ∷ xs) z = absurd (omega (arith, z))

-- ---- blanks at the ends

all_blank-append : (a b : List ℕ) → is_all_blank a ≡ true → is_all_blank b ≡ true → is_all_blank (a ++ b) ≡ true
all_blank-append a b h k = list_all-append is_blank a b ∙ rw (h, k) refl

all_blank-reverse : (a : List ℕ) → is_all_blank a ≡ true → is_all_blank (reverse a) ≡ true
all_blank-reverse [] h = refl
all_blank-reverse (x ∷ xs) h =
    elim (either (is_blank x)) [
      | inr other ↦ absurd (let e : false ≡ true = rw other at h in cc)
      | inl blank ↦ ap is_all_blank (reverse-append (x ∷ []) xs) ∙ all_blank-append (reverse xs) (x ∷ []) (all_blank-reverse xs (rw blank at h)) (rw blank refl)
    ]

front_passed : (a t : List ℕ) → is_all_blank a ≡ true → front_trimmed (a ++ t) ≡ front_trimmed t
unfolding front_trimmed
front_passed [] t h = refl
front_passed (x ∷ xs) t h =
    elim (either (is_blank x)) [
      | inr other ↦ absurd (let e : false ≡ true = rw other at h in cc)
      | inl blank ↦ rw blank (front_passed xs t (rw blank at h))
    ]

front_stops : (b : ℕ) (t : List ℕ) → is_blank b ≡ false → front_trimmed (b ∷ t) ≡ b ∷ t
unfolding front_trimmed
front_stops b t h = rw h refl

front_again : (t : List ℕ) → front_trimmed (front_trimmed t) ≡ front_trimmed t
unfolding front_trimmed
front_again [] = refl
front_again (b ∷ bs) =
    elim (either (is_blank b)) [
      | inl blank ↦ rw blank (front_again bs)
      | inr other ↦ rw other (rw other refl)
    ]

front_parts : (t : List ℕ) → (b : List ℕ) × (is_all_blank b ≡ true) × (t ≡ b ++ front_trimmed t)
unfolding front_trimmed
front_parts [] = ([], refl, refl)
front_parts (b ∷ bs) =
    let rest = front_parts bs in
    elim (either (is_blank b)) [
      | inl blank ↦ (b ∷ rest.0, rw blank rest.1, rw blank (ap (λ (t : List ℕ). b ∷ t) rest.2))
      | inr other ↦ ([], refl, rw other refl)
    ]

drop_blanks : (t : List ℕ) → drop (blank_len t) t ≡ front_trimmed t
unfolding front_trimmed
drop_blanks [] = refl
drop_blanks (b ∷ bs) =
    elim (either (is_blank b)) [
      | inl blank ↦ rw blank (ap (λ n. drop n (b ∷ bs)) (let e : 1 + blank_len bs ≡ suc (blank_len bs) = omega arith in e) ∙ drop_blanks bs)
      | inr other ↦ rw other refl
    ]

take_blanks : (t : List ℕ) → is_all_blank (take (blank_len t) t) ≡ true
take_blanks [] = refl
take_blanks (b ∷ bs) =
    elim (either (is_blank b)) [
      | inl blank ↦ rw blank (ap (λ n. is_all_blank (take n (b ∷ bs))) (let e : 1 + blank_len bs ≡ suc (blank_len bs) = omega arith in e) ∙ rw blank (take_blanks bs))
      | inr other ↦ rw other refl
    ]

blank_len-passed : (a : List ℕ) (b : ℕ) (t : List ℕ) → is_all_blank a ≡ true → is_blank b ≡ false → blank_len (a ++ b ∷ t) ≡ length a
blank_len-passed [] b t h other = rw other refl
blank_len-passed (x ∷ xs) b t h other =
    elim (either (is_blank x)) [
      | inr other' ↦ absurd (let e : false ≡ true = rw other' at h in cc)
      | inl blank ↦ rw blank (ap (λ n. 1 + n) (blank_len-passed xs b t (rw blank at h) other) ∙ omega arith)
    ]

body-is : (t : List ℕ) → body t ≡ trimmed t
unfolding trimmed
body-is t = ap (λ (s : List ℕ). reverse (front_trimmed (reverse (front_trimmed s)))) (drop_blanks t) ∙ ap (λ (s : List ℕ). reverse (front_trimmed (reverse s))) (front_again t)

-- The text is blanks, what `trimmed` leaves, and blanks.
trimmed_parts : (t : List ℕ) → (after : List ℕ) × (is_all_blank after ≡ true) × (t ≡ take (blank_len t) t ++ (trimmed t ++ after))
unfolding trimmed
trimmed_parts t =
    let back = front_parts (reverse (front_trimmed t)) in
    let front : front_trimmed t ≡ reverse (front_trimmed (reverse (front_trimmed t))) ++ reverse back.0 =
    sym (reverse-reverse (front_trimmed t)) ∙ ap reverse back.2 ∙ reverse-append back.0 (front_trimmed (reverse (front_trimmed t))) in
    (reverse back.0, all_blank-reverse back.0 back.1, sym (take-append-drop (blank_len t) t) ∙ ap (λ (s : List ℕ). take (blank_len t) t ++ s) (drop_blanks t ∙ front))

-- Blanks around a text that begins and ends with other bytes.
trimmed_between : (before after inside : List ℕ) → is_all_blank before ≡ true → is_all_blank after ≡ true → trimmed (before ++ 91 ∷ (inside ++ 93 ∷ after)) ≡ 91 ∷ (inside ++ 93 ∷ [])
unfolding trimmed
trimmed_between before after inside h k =
    let core : List ℕ = 91 ∷ (inside ++ 93 ∷ []) in
    let front : front_trimmed (before ++ 91 ∷ (inside ++ 93 ∷ after)) ≡ 91 ∷ (inside ++ 93 ∷ after) = front_passed before (91 ∷ (inside ++ 93 ∷ after)) h ∙ front_stops 91 (inside ++ 93 ∷ after) refl in
    let whole : 91 ∷ (inside ++ 93 ∷ after) ≡ core ++ after = ap (λ (t : List ℕ). 91 ∷ t) (sym (append_assoc inside (93 ∷ []) after)) in
    let turned : reverse core ≡ 93 ∷ reverse (91 ∷ inside) = reverse-append (91 ∷ inside) (93 ∷ []) in
    let back : front_trimmed (reverse (91 ∷ (inside ++ 93 ∷ after))) ≡ reverse core =
    ap (λ (t : List ℕ). front_trimmed (reverse t)) whole ∙ ap front_trimmed (reverse-append core after) ∙ front_passed (reverse after) (reverse core) (all_blank-reverse after k)
    ∙ ap front_trimmed turned ∙ front_stops 93 (reverse (91 ∷ inside)) refl ∙ sym turned in
    ap (λ (t : List ℕ). reverse (front_trimmed (reverse t))) front ∙ ap reverse back ∙ reverse-reverse core

-- ---- a run with blanks around it

inner : (text inside : List ℕ) → text ≡ 91 ∷ (inside ++ 93 ∷ []) → take (length text - 2) (drop 1 text) ≡ inside
inner text inside is =
    ap (λ (t : List ℕ). take (length t - 2) (drop 1 t)) is
    ∙ ap (λ n. take n (inside ++ 93 ∷ [])) (let e : suc (length (inside ++ 93 ∷ [])) - 2 ≡ length inside = omega (arith, length-append inside (93 ∷ [])) in e)
    ∙ take-append_seam inside (93 ∷ [])

pub IsRun-inside : (text inside : Span) → IsRun text inside → run_inside text ≡ Some inside
IsRun-inside text inside r =
    let core : body text.text ≡ 91 ∷ (inside.text ++ 93 ∷ []) = body-is text.text ∙ ap trimmed r.parts ∙ trimmed_between r.before r.after inside.text r.blank_before r.blank_after in
    let blanks : blank_len text.text ≡ length r.before = ap blank_len r.parts ∙ blank_len-passed r.before 91 (inside.text ++ 93 ∷ r.after) r.blank_before refl in
    let found : is_run (body text.text) ≡ true = ap is_run core ∙ run-is r.balanced in
    let bytes : take (length (body text.text) - 2) (drop 1 (body text.text)) ≡ inside.text = inner (body text.text) inside.text core in
    let offset : text.at + blank_len text.text + 1 ≡ inside.at = omega (arith, blanks, r.offset) in
    rw (found, bytes, offset) refl

pub inside-IsRun : (text inside : Span) → run_inside text ≡ Some inside → IsRun text inside
inside-IsRun text inside e =
    elim (either (is_run (body text.text))) [
      | inr other ↦ absurd (none_is inside (rw other at e))
      | inl found ↦
          (let taken = found_is _ inside (rw found at e) in
          let r = is-run (body text.text) found in
          let bytes : r.1 ≡ inside.text = sym (inner (body text.text) r.1 r.3) ∙ ap (λ (s : Span). s.text) taken in
          let around = trimmed_parts text.text in
          let core : trimmed text.text ++ around.0 ≡ 91 ∷ (inside.text ++ 93 ∷ around.0) =
          ap (λ (t : List ℕ). t ++ around.0) (sym (body-is text.text) ∙ r.3) ∙ append_assoc (91 ∷ r.1) (93 ∷ []) around.0 ∙ ap (λ (t : List ℕ). 91 ∷ (t ++ 93 ∷ around.0)) bytes in
          let len : length (take (blank_len text.text) text.text) ≡ blank_len text.text = length-take-le (blank_len text.text) text.text (prefix_len-le-length is_blank text.text) in
          record {
            before = take (blank_len text.text) text.text;
            after = around.0;
            room = r.0;
            parts = around.2 ∙ ap (λ (t : List ℕ). take (blank_len text.text) text.text ++ t) core;
            blank_before = take_blanks text.text;
            blank_after = around.1;
            balanced = subst (Balanced r.0) bytes r.2;
            offset = omega (arith, ap (λ (s : Span). s.at) taken, len);
          })
    ]
