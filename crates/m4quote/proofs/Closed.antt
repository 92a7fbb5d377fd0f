-- A text without its outermost quotes closes each quote that it opens.
use Rattle.std.proofs.Common.{◌≡◌, ◌≢◌, ℕ, suc, ◌+◌, ◌-◌, ◌≤◌, Bool, true, false, cond, eqb, inl, inr, List, [], ◌∷◌, ◌++◌, length, take, drop, Ok, refl, sym, ap, subst, ◌∙◌, append_assoc, arith}
use Rattle.std.proofs.lemmas.Bool.{eqb-true, cases_Bool}
use Rattle.std.proofs.lemmas.List.{length-append, drop-drop, drop_min}
use Rattle.std.proofs.Math.Seq.{drop-append-add, take-append-add, take-append_seam}
use Rattle.m4quote.specs.declared.fault.QuoteFault.{QuoteFault}
use Rattle.m4quote.specs.declared.fault.QuoteFault.TheVariants.{StrayClose}
use Rattle.m4quote.specs.declared.front.FrontKind.{FrontKind}
use Rattle.m4quote.specs.declared.front.FrontKind.TheVariants.{Quoted}
use Rattle.m4quote.specs.Text.{is_word_byte, word_len, word, line_len, whole_line_len, is_dnl, is_macro_name}
use Rattle.m4quote.specs.Spelling.{Balanced, empty, byte, group, IsFront, quoted, comment, dropped, name, other_word, other_byte}
use Rattle.m4quote.specs.Used.{unquoted_front, Unquotes, nothing, front, UnquoteBreaks, stray_close, unclosed, following}
use Rattle.m4quote.specs.Scan.{closing}
use Rattle.fallible.proofs.Binds.{passed, ok_is}
use Rattle.m4quote.proofs.Quotes.{closing-balanced}
use Rattle.m4quote.proofs.QuoteFaults.{closing-breaks}
use Rattle.m4quote.proofs.Rooms.{Balanced-more, open-more}

-- ---- lines

-- the text from its first newline on
abbrev after_line : List ℕ → List ℕ
after_line [] = []
after_line (b ∷ bs) = cond (eqb b 10) (b ∷ bs) (after_line bs)

-- the text is empty or begins with a newline
abbrev Ends : List ℕ → Type 0
Ends [] = Unit {0}
Ends (b ∷ bs) = b ≡ 10

line_is : (text : List ℕ) → drop (line_len text) text ≡ after_line text
line_is [] = refl
line_is (b ∷ bs) =
    elim (cases_Bool (eqb b 10)) [
      | inl ends ↦ rw ends refl
      | inr on ↦ rw on (ap (λ n. drop n (b ∷ bs)) (let e : 1 + line_len bs ≡ suc (line_len bs) = omega arith in e) ∙ line_is bs)
    ]

after_line-Ends : (text : List ℕ) → Ends (after_line text)
after_line-Ends [] = tt
after_line-Ends (b ∷ bs) =
    elim (cases_Bool (eqb b 10)) [
      | inl ends ↦ rw ends (eqb-true b 10 ends)
      | inr on ↦ rw on (after_line-Ends bs)
    ]

Ends-after_line : (text : List ℕ) → Ends text → after_line text ≡ text
Ends-after_line [] h = refl
Ends-after_line (b ∷ bs) h = rw h refl

-- a line, and then a text that begins after it
line_front : (text out : List ℕ) → Ends out → after_line (take (line_len text) text ++ out) ≡ out
line_front [] out h = Ends-after_line out h
line_front (b ∷ bs) out h =
    elim (cases_Bool (eqb b 10)) [
      | inl ends ↦ rw ends (Ends-after_line out h)
      | inr on ↦ rw on (ap (λ n. after_line (take n (b ∷ bs) ++ out)) (let e : 1 + line_len bs ≡ suc (line_len bs) = omega arith in e) ∙ rw on (line_front bs out h))
    ]

whole_line_is : (text : List ℕ) → drop (whole_line_len text) text ≡ drop 1 (after_line text)
whole_line_is text = drop_min (line_len text + 1) text ∙ sym (drop-drop 1 (line_len text) text) ∙ ap (drop 1) (line_is text)

-- ---- texts that leave no quote open

-- Each bracket that opens a quote is closed, except for those in comments.
data Tame : List ℕ → Type 0 where
  ends : Tame []
  plain : {b : ℕ} {text : List ℕ} → b ≢ 91 → Tame text → Tame (b ∷ text)
  run : {room : ℕ} {inside text : List ℕ} → Balanced room inside → Tame text → Tame (91 ∷ (inside ++ 93 ∷ text))
  hash : {text : List ℕ} → Tame (after_line text) → Tame (35 ∷ text)

-- a balanced text before it changes nothing
woven : {room : ℕ} {inside : List ℕ} → Balanced room inside → (rest : List ℕ) → Tame rest → Tame (inside ++ rest)
woven empty rest tame = tame
woven (byte opens closes more) rest tame = plain opens (woven more rest tame)
woven (group {room} {inside} {text} within more) rest tame =
    subst (λ (t : List ℕ). Tame (91 ∷ t)) (sym (append_assoc inside (93 ∷ text) rest)) (run within (woven more rest tame))

line_in : {room : ℕ} {inside : List ℕ} → Balanced room inside → (rest : List ℕ) → Tame rest → Tame (after_line rest) → Tame (after_line (inside ++ rest))
line_in empty rest tame later = later
line_in (byte {room} {b} {text} opens closes more) rest tame later =
    elim (cases_Bool (eqb b 10)) [
      | inl here ↦ rw here (plain opens (woven more rest tame))
      | inr on ↦ rw on (line_in more rest tame later)
    ]
line_in (group {room} {inside} {text} within more) rest tame later =
    subst (λ (t : List ℕ). Tame (after_line t)) (sym (append_assoc inside (93 ∷ text) rest))
    (line_in within (93 ∷ (text ++ rest)) (plain (λ e. omega (arith, e)) (woven more rest tame)) (line_in more rest tame later))

after_line-Tame : {text : List ℕ} → Tame text → Tame (after_line text)
after_line-Tame ends = ends
after_line-Tame (plain {b} {text} opens tame) =
    elim (cases_Bool (eqb b 10)) [
      | inl here ↦ rw here (plain opens tame)
      | inr on ↦ rw on (after_line-Tame tame)
    ]
after_line-Tame (run {room} {inside} {text} balanced tame) = line_in balanced (93 ∷ text) (plain (λ e. omega (arith, e)) tame) (after_line-Tame tame)
after_line-Tame (hash tame) = tame

-- ---- the text after a piece

tail : {t : List ℕ} → Tame t → (b : ℕ) (bs : List ℕ) → t ≡ b ∷ bs → b ≢ 91 → b ≢ 35 → Tame bs
tail ends b bs is opens begins = absurd cc
tail (plain {text = text} apart tame) b bs is opens begins = let same : text ≡ bs = cc in subst Tame same tame
tail (run balanced tame) b bs is opens begins = absurd (opens cc)
tail (hash tame) b bs is opens begins = absurd (begins cc)

line_tail : (t : List ℕ) → Ends t → Tame t → Tame (drop 1 t)
line_tail [] h tame = ends
line_tail (b ∷ bs) h tame = tail tame b bs refl (λ e. omega (arith, e, h)) (λ e. omega (arith, e, h))

comment_tail : {t : List ℕ} → Tame t → (bs : List ℕ) → t ≡ 35 ∷ bs → Tame (after_line bs)
comment_tail ends bs is = absurd cc
comment_tail (plain {text = text} apart tame) bs is = let same : text ≡ bs = cc in subst (λ (t : List ℕ). Tame (after_line t)) same (after_line-Tame tame)
comment_tail (run balanced tame) bs is = absurd (let e : ◌≡◌ {A = ℕ} 91 35 = cc in omega (arith, e))
comment_tail (hash {text = text} tame) bs is = let same : text ≡ bs = cc in subst (λ (t : List ℕ). Tame (after_line t)) same tame

abbrev Run : List ℕ → Type 0
Run bs = (room : ℕ) × (inside : List ℕ) × (rest : List ℕ) × Balanced room inside × (bs ≡ inside ++ 93 ∷ rest) × Tame rest

run_tail : {t : List ℕ} → Tame t → (bs : List ℕ) → t ≡ 91 ∷ bs → Run bs
run_tail ends bs is = absurd cc
run_tail (plain apart tame) bs is = absurd (apart cc)
run_tail (run {room} {inside} {text} balanced tame) bs is = (room, inside, text, balanced, cc, tame)
run_tail (hash tame) bs is = absurd (let e : ◌≡◌ {A = ℕ} 35 91 = cc in omega (arith, e))

word_byte : (b : ℕ) → is_word_byte b ≡ true → (b ≢ 91) × (b ≢ 35)
word_byte b h =
    (λ e. let k : is_word_byte 91 ≡ true = sym (ap is_word_byte e) ∙ h in cc, λ e. let k : is_word_byte 35 ≡ true = sym (ap is_word_byte e) ∙ h in cc)

word_tail : (t : List ℕ) → Tame t → Tame (drop (word_len t) t)
word_tail [] tame = tame
word_tail (b ∷ bs) tame =
    elim (cases_Bool (is_word_byte b)) [
      | inl in_word ↦
          let w = word_byte b in_word in
          rw in_word (subst (λ n. Tame (drop n (b ∷ bs))) (let e : suc (word_len bs) ≡ 1 + word_len bs = omega arith in e) (word_tail bs (tail tame b bs refl w.0 w.1)))
      | inr other ↦ rw other tame
    ]

-- the end of a quote
end_of : {room : ℕ} {inside : List ℕ} → Balanced room inside → (more : ℕ) (rest : List ℕ) → room ≤ more → closing 0 (suc more) 1 0 (inside ++ 93 ∷ rest) ≡ Ok (length inside + 1)
end_of {room} {inside} balanced more rest le =
    closing-balanced (Balanced-more balanced more le) 0 (suc more) 1 0 (93 ∷ rest) (omega arith) (omega arith)
    ∙ ap (λ n. Ok n) (let e : 0 + length inside + 1 ≡ length inside + 1 = omega arith in e)

after_run : (inside rest : List ℕ) → rest ≡ drop (length inside + 1) (inside ++ 93 ∷ rest)
after_run inside rest = sym (drop-append-add inside (93 ∷ rest) 1)

one_end : {room other : ℕ} {inside inside' : List ℕ} → Balanced room inside → Balanced other inside' → (rest rest' : List ℕ) → inside ++ 93 ∷ rest ≡ inside' ++ 93 ∷ rest' → rest' ≡ rest
one_end {room} {other} {inside} {inside'} a b rest rest' same =
    let len : length inside' + 1 ≡ length inside + 1 = ok_is _ _ (sym (end_of b (room + other) rest' (omega arith)) ∙ ap (closing 0 (suc (room + other)) 1 0) (sym same) ∙ end_of a (room + other) rest (omega arith)) in
    after_run inside' rest' ∙ ap (drop (length inside' + 1)) (sym same) ∙ ap (λ n. drop n (inside ++ 93 ∷ rest)) len ∙ sym (after_run inside rest)

piece_tail : {room : ℕ} {text : List ℕ} {kind : FrontKind} {n : ℕ} → IsFront room text kind n → Tame text → Tame (drop n text)
piece_tail (quoted {room} {inside} balanced rest) tame =
    let r = run_tail tame (inside ++ 93 ∷ rest) refl in
    let there : rest ≡ drop (length inside + 2) (91 ∷ (inside ++ 93 ∷ rest)) = after_run inside rest ∙ ap (λ n. drop n (91 ∷ (inside ++ 93 ∷ rest))) (let e : suc (length inside + 1) ≡ length inside + 2 = omega arith in e) in
    subst Tame there (subst Tame (one_end balanced r.3 rest r.2 r.4) r.5)
piece_tail (comment {room} {rest}) tame =
    subst Tame (sym (line_is (35 ∷ rest))) (comment_tail tame rest refl)
piece_tail (dropped {room} {text} dnl) tame = subst Tame (sym (whole_line_is text)) (line_tail (after_line text) (after_line-Ends text) (after_line-Tame tame))
piece_tail (name {room} {text} given) tame = word_tail text tame
piece_tail (other_word {room} {text} some no_dnl no_name) tame = word_tail text tame
piece_tail (other_byte {room} {b} {rest} other) tame = tail tame b rest refl other.opens other.hash

-- ---- the only error of such a text is a stray closing bracket

Tame-breaks : {at : ℕ} {text : List ℕ} {f : QuoteFault} → UnquoteBreaks at text f → Tame text → (place : ℕ) × (f ≡ StrayClose place)
Tame-breaks (stray_close {at}) tame = (at, refl)
Tame-breaks (unclosed {at} {room} {rest} breaks) tame =
    let r = run_tail tame rest refl in
    let found : closing 0 (suc (room + r.0)) 1 0 rest ≡ Ok (length r.1 + 1) = ap (closing 0 (suc (room + r.0)) 1 0) r.4 ∙ end_of r.3 (room + r.0) r.2 (omega arith) in
    absurd (passed (sym (ap (λ (t : List ℕ). closing at (suc (room + r.0)) 1 0 t) r.4 ∙ closing-balanced (Balanced-more r.3 (room + r.0) (omega arith)) at (suc (room + r.0)) 1 0 (93 ∷ r.2) (omega arith) (omega arith)) ∙ closing-breaks (open-more breaks at refl (room + r.0) (omega arith)) (suc (room + r.0)) 1 0 (omega arith) (omega arith)))
Tame-breaks (following is later) tame = Tame-breaks later (piece_tail is tame)

-- ---- a text without its outermost quotes is such a text

no_word : (t : List ℕ) → Ends t → word_len t ≡ 0
no_word [] h = refl
no_word (b ∷ bs) h = rw h refl

no_test : (p : List ℕ → Bool) → p [] ≡ false → (t : List ℕ) → Ends t → p (word t) ≡ true → ⊥
no_test p none t h given = let k : p [] ≡ true = rw (no_word t h) at given in let q : false ≡ true = sym none ∙ k in cc

left_Ends : {text out : List ℕ} → Unquotes text out → Ends text → Ends out
left_Ends nothing h = tt
left_Ends (front (quoted balanced rest) later) h = absurd (omega (arith, h))
left_Ends (front comment later) h = absurd (omega (arith, h))
left_Ends (front (dropped {text = text} dnl) later) h = absurd (no_test is_dnl refl text h dnl)
left_Ends (front (name {text = text} given) later) h = absurd (no_test is_macro_name refl text h given)
left_Ends (front (other_word {text = text} some no_dnl no_name) later) h = absurd (omega (arith, some, no_word text h))
left_Ends (front (other_byte other) later) h = h

word_Tame : (t out : List ℕ) → Tame out → Tame (take (word_len t) t ++ out)
word_Tame [] out tame = tame
word_Tame (b ∷ bs) out tame =
    elim (cases_Bool (is_word_byte b)) [
      | inl in_word ↦
          rw in_word (subst (λ n. Tame (take n (b ∷ bs) ++ out)) (let e : suc (word_len bs) ≡ 1 + word_len bs = omega arith in e) (plain (word_byte b in_word).0 (word_Tame bs out tame)))
      | inr other ↦ rw other tame
    ]

left_Tame : {room : ℕ} {text : List ℕ} {kind : FrontKind} {n : ℕ} → IsFront room text kind n → (out : List ℕ) → (Ends (drop n text) → Ends out) → Tame out → Tame (unquoted_front kind (take n text) ++ out)
left_Tame (quoted {room} {inside} balanced rest) out on tame =
    let whole : take (length inside + 2) (91 ∷ (inside ++ 93 ∷ rest)) ≡ 91 ∷ (inside ++ 93 ∷ []) =
    ap (λ n. take n (91 ∷ (inside ++ 93 ∷ rest))) (let e : length inside + 2 ≡ suc (length inside + 1) = omega arith in e) ∙ ap (λ (t : List ℕ). 91 ∷ t) (take-append-add inside (93 ∷ rest) 1) in
    let is : inside ≡ unquoted_front Quoted (take (length inside + 2) (91 ∷ (inside ++ 93 ∷ rest))) =
    sym (ap (unquoted_front Quoted) whole ∙ ap (λ n. take n (inside ++ 93 ∷ [])) (let e : suc (length (inside ++ 93 ∷ [])) - 2 ≡ length inside = omega (arith, length-append inside (93 ∷ [])) in e) ∙ take-append_seam inside (93 ∷ [])) in
    subst (λ (t : List ℕ). Tame (t ++ out)) is (woven balanced out tame)
left_Tame (comment {rest = rest}) out on tame =
    let at_end : Ends out = on (subst Ends (sym (line_is (35 ∷ rest))) (after_line-Ends rest)) in
    let line : Tame (after_line (take (line_len rest) rest ++ out)) = subst Tame (sym (line_front rest out at_end)) tame in
    subst (λ n. Tame (take n (35 ∷ rest) ++ out)) (let e : suc (line_len rest) ≡ 1 + line_len rest = omega arith in e) (hash line)
left_Tame (dropped dnl) out on tame = tame
left_Tame (name {text = text} given) out on tame = word_Tame text out tame
left_Tame (other_word {text = text} some no_dnl no_name) out on tame = word_Tame text out tame
left_Tame (other_byte other) out on tame = plain other.opens tame

Unquotes-Tame : {text out : List ℕ} → Unquotes text out → Tame out
Unquotes-Tame nothing = ends
Unquotes-Tame (front {out = out} is later) = left_Tame is out (left_Ends later) (Unquotes-Tame later)

-- the only errors of the second removal of quotes are stray closing brackets
pub second_breaks : {arg once : List ℕ} {at : ℕ} {f : QuoteFault} → Unquotes arg once → UnquoteBreaks at once f → (place : ℕ) × (f ≡ StrayClose place)
second_breaks first breaks = Tame-breaks breaks (Unquotes-Tame first)
