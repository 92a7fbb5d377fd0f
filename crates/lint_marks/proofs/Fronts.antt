-- Each piece into which m4quote cuts a text is read as what it is.
use Rattle.std.proofs.Common.{◌≡◌, ◌≢◌, ℕ, zero, suc, ◌+◌, ◌-◌, ◌<◌, ◌≤◌, Bool, true, false, eqb, min, ◌⊎◌, inl, inr, ne_eqb, List, [], ◌∷◌, ◌++◌, length, refl, sym, ap, subst, ◌∙◌, append_assoc, arith, codes}
use Rattle.std.proofs.lemmas.List.{length-append}
use Rattle.std.proofs.lemmas.Slice.Eq.{bytes_eq-Decides}
use Rattle.std.proofs.lemmas.Bool.{cases_Bool}
use Rattle.m4quote.specs.Text.{is_word_byte, word_len, word, line_len, whole_line_len, is_dnl, is_macro_name}
use Rattle.m4quote.specs.Spelling.{Balanced, empty, byte, group, IsFront, quoted, comment, dropped, name, other_word, other_byte, IsOrdinary}
use Rattle.lint_marks.specs.declared.quotes.Quotes.{Quotes}
use Rattle.lint_marks.specs.declared.quotes.QuotePart.TheVariants.{Text, Comment, Dropped}
use Rattle.lint_marks.specs.Quotes.{opened, after, after_text}
use Rattle.lint_marks.specs.Fronts.{in_text, IsBetween, in_open, after_comment, at_end, IsQuoted, IsComment, IsDropped, IsPlain, Along, ReadsPiece, IsPiece, IsAsDeep, IsBack}

-- ---- bytes

-- a word byte is no bracket and begins no comment
word_byte_not : (b c : ℕ) → is_word_byte c ≡ false → is_word_byte b ≡ true → eqb b c ≡ false
word_byte_not b c not_word in_word = ne_eqb b c (λ e. let h : is_word_byte c ≡ true = sym (ap is_word_byte e) ∙ in_word in cc)

word_len_some : (b : ℕ) (bs : List ℕ) → is_word_byte b ≡ true → word_len (b ∷ bs) ≡ suc (word_len bs)
word_len_some b bs in_word = rw in_word (omega arith)

word_len_none : (b : ℕ) (bs : List ℕ) → is_word_byte b ≡ false → word_len (b ∷ bs) ≡ 0
word_len_none b bs not_word = rw not_word refl

-- no `dnl` is where no word is
no_dnl_at : (b : ℕ) (bs : List ℕ) → is_word_byte b ≡ false → is_dnl (word (b ∷ bs)) ≡ false
no_dnl_at b bs not_word = rw not_word refl

first_of_dnl : (b : ℕ) (bs : List ℕ) → is_dnl (word (b ∷ bs)) ≡ true → is_word_byte b ≡ true
first_of_dnl b bs dnl =
    elim (cases_Bool (is_word_byte b)) [
      | inl w ↦ w
      | inr other ↦ absurd (let h : false ≡ true = sym (no_dnl_at b bs other) ∙ dnl in cc)
    ]

-- ---- the state after a byte of text

-- in quotes
deep_byte : (depth : ℕ) (named : Bool) (b : ℕ) (bs : List ℕ) → 0 < depth → after (in_text depth named) (b ∷ bs) ≡ after_text depth b
deep_byte depth named b bs some = rw (ne_eqb depth 0 (λ e. omega (arith, some, e))) refl

-- outside quotes, where no dropped line begins
open_byte : (named : Bool) (b : ℕ) (bs : List ℕ) → is_dnl (word (b ∷ bs)) ≡ false → after (in_text 0 named) (b ∷ bs) ≡ after_text 0 b
open_byte true b bs none = refl
open_byte false b bs none = rw none refl

-- another byte of text
other_text : (depth b : ℕ) → b ≢ 91 → b ≢ 93 → (0 < depth) ⊎ (b ≢ 35) → after_text depth b ≡ in_text depth (is_word_byte b)
other_text depth b opens closes (inl deep) = rw (ne_eqb b 91 opens, ne_eqb b 93 closes, ne_eqb depth 0 (λ e. omega (arith, deep, e))) (elim (cases_Bool (eqb b 35)) [ inl h ↦ rw h refl | inr h ↦ rw h refl ])
other_text depth b opens closes (inr hash) = rw (ne_eqb b 91 opens, ne_eqb b 93 closes, ne_eqb b 35 hash) refl

-- a word goes on
word_byte_text : (b : ℕ) → is_word_byte b ≡ true → after_text 0 b ≡ in_text 0 true
word_byte_text b in_word = rw (word_byte_not b 91 refl in_word, word_byte_not b 93 refl in_word, word_byte_not b 35 refl in_word, in_word) refl

word_text : (b : ℕ) (bs : List ℕ) → is_word_byte b ≡ true → after (in_text 0 true) (b ∷ bs) ≡ in_text 0 true
word_text b bs in_word = word_byte_text b in_word

dropped_from : (b : ℕ) (bs : List ℕ) → is_dnl (word (b ∷ bs)) ≡ true → after (in_text 0 false) (b ∷ bs) ≡ opened 0 Dropped
dropped_from b bs dnl = rw dnl refl

some_word : (b : ℕ) (bs : List ℕ) → 0 < word_len (b ∷ bs) → is_word_byte b ≡ true
some_word b bs some =
    elim (cases_Bool (is_word_byte b)) [
      | inl w ↦ w
      | inr other ↦ absurd (omega (arith, some, word_len_none b bs other))
    ]

-- a comment ends before a newline
after_newline : (b : ℕ) (bs : List ℕ) → line_len (b ∷ bs) ≡ 0 → after (opened 0 Comment) (b ∷ bs) ≡ in_text 0 false
after_newline b bs ends =
    elim (cases_Bool (eqb b 10)) [
      | inl newline ↦ rw newline refl
      | inr other ↦ absurd (let h : line_len (b ∷ bs) ≡ suc (line_len bs) = rw other (omega arith) in omega (arith, h, ends))
    ]

-- a macro's name is a word, and not `dnl`
name_not_dnl : (w : List ℕ) → is_macro_name w ≡ true → is_dnl w ≡ false
name_not_dnl w given =
    elim (cases_Bool (is_dnl w)) [
      | inl dnl ↦ absurd (let e : w ≡ codes "dnl" = (bytes_eq-Decides w (codes "dnl")).0 dnl in let h : is_macro_name (codes "dnl") ≡ true = rw e at given in cc)
      | inr other ↦ other
    ]

name_len : (text : List ℕ) → is_macro_name (word text) ≡ true → 0 < word_len text
name_len [] given = absurd cc
name_len (b ∷ bs) given =
    elim (cases_Bool (is_word_byte b)) [
      | inl in_word ↦ omega (arith, word_len_some b bs in_word)
      | inr other ↦ absurd (let h : is_macro_name [] ≡ true = rw other at given in let k : false ≡ true = h in cc)
    ]

-- ---- along a text

along_count : (Before : Quotes → Type 0) (After : Quotes → List ℕ → Type 0) (m n : ℕ) (q : Quotes) (text : List ℕ) → m ≡ n → Along Before After m q text → Along Before After n q text
along_count Before After m n q text e along = subst (λ (k : ℕ). Along Before After k q text) e along

along_from : (Before : Quotes → Type 0) (After : Quotes → List ℕ → Type 0) (n : ℕ) (p q : Quotes) (text : List ℕ) → p ≡ q → Along Before After n q text → Along Before After n p text
along_from Before After n p q text e along = subst (λ (r : Quotes). Along Before After n r text) (sym e) along

reads_from : (Within : Quotes → Type 0) (n m : ℕ) (q r : Quotes) (b : ℕ) (bs : List ℕ) → n ≡ suc m → after q (b ∷ bs) ≡ r → Along Within IsBetween m r bs → ReadsPiece Within n q (b ∷ bs)
reads_from Within n m q r b bs e next along = subst (λ (k : ℕ). ReadsPiece Within k q (b ∷ bs)) (sym e) (along_from Within IsBetween m (after q (b ∷ bs)) r bs next along)

-- ---- brackets that balance

balanced_along : (Before : Quotes → Type 0) (After : Quotes → List ℕ → Type 0) {room : ℕ} {inside : List ℕ} → Balanced room inside → (depth : ℕ) (named : Bool) → 0 < depth → depth + room ≤ 255
    → (rest : List ℕ) (n : ℕ) → ((deep : ℕ) (given : Bool) → depth ≤ deep → Before (in_text deep given)) → ((given : Bool) → Along Before After n (in_text depth given) rest)
    → Along Before After (length inside + n) (in_text depth named) (inside ++ rest)
balanced_along Before After empty depth named some fits rest n before more =
    along_count Before After n (0 + n) (in_text depth named) rest (omega arith) (more named)
balanced_along Before After (byte {room} {b} {text} opens closes balanced) depth named some fits rest n before more =
    along_count Before After (suc (length text + n)) (length (b ∷ text) + n) (in_text depth named) (b ∷ (text ++ rest)) (omega arith) (
      before depth named (omega arith),
      along_from Before After (length text + n) (after (in_text depth named) (b ∷ (text ++ rest))) (in_text depth (is_word_byte b)) (text ++ rest)
          (deep_byte depth named b (text ++ rest) some ∙ other_text depth b opens closes (inl some))
          (balanced_along Before After balanced depth (is_word_byte b) some fits rest n before more),
    )
balanced_along Before After (group {room} {inside} {text} balanced others) depth named some fits rest n before more =
    let tail : List ℕ = text ++ rest in
    let back : (given : Bool) → after (in_text (depth + 1) given) (93 ∷ tail) ≡ in_text depth false
    = λ given. deep_byte (depth + 1) given 93 tail (omega arith) ∙ ap (λ (d : ℕ). in_text d false) (let e : depth + 1 - 1 ≡ depth = omega arith in e) in
    let deeper : after (in_text depth named) (91 ∷ ((inside ++ 93 ∷ text) ++ rest)) ≡ in_text (depth + 1) false
    = deep_byte depth named 91 ((inside ++ 93 ∷ text) ++ rest) some ∙ ap (λ (d : ℕ). in_text d false) (let e : min 255 (depth + 1) ≡ depth + 1 = omega (arith, fits) in e) in
    let inner : Along Before After (length inside + suc (length text + n)) (in_text (depth + 1) false) (inside ++ 93 ∷ tail)
    = balanced_along Before After balanced (depth + 1) false (omega arith) (omega (arith, fits)) (93 ∷ tail) (suc (length text + n))
    (λ deep given le. before deep given (omega (arith, le)))
    (λ given. (
      before (depth + 1) given (omega arith),
      along_from Before After (length text + n) (after (in_text (depth + 1) given) (93 ∷ tail)) (in_text depth false) tail (back given)
          (balanced_along Before After others depth false some (omega (arith, fits)) rest n before more),
    )) in
    let whole : Along Before After (length inside + suc (length text + n)) (in_text (depth + 1) false) ((inside ++ 93 ∷ text) ++ rest)
    = subst (λ (t : List ℕ). Along Before After (length inside + suc (length text + n)) (in_text (depth + 1) false) t) (sym (append_assoc inside (93 ∷ text) rest)) inner in
    let count : suc (length inside + suc (length text + n)) ≡ length (91 ∷ (inside ++ 93 ∷ text)) + n = omega (arith, length-append inside (93 ∷ text)) in
    along_count Before After (suc (length inside + suc (length text + n))) (length (91 ∷ (inside ++ 93 ∷ text)) + n) (in_text depth named) (91 ∷ ((inside ++ 93 ∷ text) ++ rest)) count (
      before depth named (omega arith),
      along_from Before After (length inside + suc (length text + n)) (after (in_text depth named) (91 ∷ ((inside ++ 93 ∷ text) ++ rest))) (in_text (depth + 1) false) ((inside ++ 93 ∷ text) ++ rest) deeper whole,
    )

pub stays_deep : (room depth : ℕ) (named : Bool) (inside rest : List ℕ) → 0 < depth → depth + room ≤ 255 → Balanced room inside
    → Along (IsAsDeep depth) (IsBack depth) (length inside) (in_text depth named) (inside ++ rest)
stays_deep room depth named inside rest some fits balanced =
    along_count (IsAsDeep depth) (IsBack depth) (length inside + 0) (length inside) (in_text depth named) (inside ++ rest) (omega arith)
    (balanced_along (IsAsDeep depth) (IsBack depth) balanced depth named some fits rest 0 (λ deep given le. (refl, le)) (λ given. (refl, refl)))

-- ---- comments, dropped lines and words

in_comment : (text : List ℕ) → Along IsComment IsBetween (line_len text) (opened 0 Comment) text
in_comment [] = after_comment refl
in_comment (b ∷ bs) = by_end (eqb b 10) refl (in_comment bs) where
  by_end : (e : Bool) → eqb b 10 ≡ e → Along IsComment IsBetween (line_len bs) (opened 0 Comment) bs → Along IsComment IsBetween (line_len (b ∷ bs)) (opened 0 Comment) (b ∷ bs)
  by_end true e more = along_count IsComment IsBetween 0 (line_len (b ∷ bs)) (opened 0 Comment) (b ∷ bs) (rw e refl) (after_comment {text = b ∷ bs} (rw e refl))
  by_end false e more =
      along_count IsComment IsBetween (suc (line_len bs)) (line_len (b ∷ bs)) (opened 0 Comment) (b ∷ bs) (rw e (omega arith))
      (refl, along_from IsComment IsBetween (line_len bs) (after (opened 0 Comment) (b ∷ bs)) (opened 0 Comment) bs (rw e refl) more)

pub never : {A : Type 0} → false ≡ true → A
never h = absurd cc

in_dropped : (text : List ℕ) → Along IsDropped IsBetween (whole_line_len text) (opened 0 Dropped) text
in_dropped [] = at_end
in_dropped (b ∷ bs) = by_end (eqb b 10) refl (in_dropped bs) where
  by_end : (e : Bool) → eqb b 10 ≡ e → Along IsDropped IsBetween (whole_line_len bs) (opened 0 Dropped) bs → Along IsDropped IsBetween (whole_line_len (b ∷ bs)) (opened 0 Dropped) (b ∷ bs)
  by_end true e more =
      along_count IsDropped IsBetween 1 (whole_line_len (b ∷ bs)) (opened 0 Dropped) (b ∷ bs) (rw e (omega arith))
      (refl, along_from IsDropped IsBetween 0 (after (opened 0 Dropped) (b ∷ bs)) (opened 0 Text) bs (rw e refl) (in_open never))
  by_end false e more =
      along_count IsDropped IsBetween (suc (whole_line_len bs)) (whole_line_len (b ∷ bs)) (opened 0 Dropped) (b ∷ bs) (rw e (omega arith))
      (refl, along_from IsDropped IsBetween (whole_line_len bs) (after (opened 0 Dropped) (b ∷ bs)) (opened 0 Dropped) bs (rw e refl) more)

after_word : (text : List ℕ) → Along IsPlain IsBetween (word_len text) (in_text 0 true) text
after_word [] = in_open (λ h. refl)
after_word (b ∷ bs) = by_word (is_word_byte b) refl (after_word bs) where
  by_word : (e : Bool) → is_word_byte b ≡ e → Along IsPlain IsBetween (word_len bs) (in_text 0 true) bs → Along IsPlain IsBetween (word_len (b ∷ bs)) (in_text 0 true) (b ∷ bs)
  by_word true e more =
      along_count IsPlain IsBetween (suc (word_len bs)) (word_len (b ∷ bs)) (in_text 0 true) (b ∷ bs) (sym (word_len_some b bs e))
      ((refl, refl), along_from IsPlain IsBetween (word_len bs) (after (in_text 0 true) (b ∷ bs)) (in_text 0 true) bs (word_text b bs e) more)
  by_word false e more = along_count IsPlain IsBetween 0 (word_len (b ∷ bs)) (in_text 0 true) (b ∷ bs) (sym (word_len_none b bs e)) (in_open (λ h. word_len_none b bs e))

-- ---- the first byte of a piece

-- no word goes on before a word
before_word : (q : Quotes) (b : ℕ) (bs : List ℕ) → IsBetween q (b ∷ bs) → is_word_byte b ≡ true → q ≡ in_text 0 false
before_word q b bs (in_open {named = true} none) in_word = absurd (omega (arith, none refl, word_len_some b bs in_word))
before_word q b bs (in_open {named = false} none) in_word = refl
before_word q b bs (after_comment ends) in_word = absurd (let h : line_len (b ∷ bs) ≡ suc (line_len bs) = rw (word_byte_not b 10 refl in_word) (omega arith) in omega (arith, h, ends))

pub reads_quoted : (room : ℕ) (q : Quotes) (inside rest : List ℕ) → room ≤ 254 → IsBetween q (91 ∷ (inside ++ 93 ∷ rest)) → Balanced room inside
    → ReadsPiece IsQuoted (length inside + 2) q (91 ∷ (inside ++ 93 ∷ rest))
reads_quoted room q inside rest fits (after_comment ends) balanced = absurd (omega (arith, ends))
reads_quoted room q inside rest fits (in_open {named} none) balanced =
    reads_from IsQuoted (length inside + 2) (length inside + 1) (in_text 0 named) (in_text 1 false) 91 (inside ++ 93 ∷ rest) (omega arith)
    (open_byte named 91 (inside ++ 93 ∷ rest) refl)
    (balanced_along IsQuoted IsBetween balanced 1 false (omega arith) (omega (arith, fits)) (93 ∷ rest) 1 (λ deep given le. (refl, omega (arith, le)))
    (λ given. ((refl, omega arith), along_from IsQuoted IsBetween 0 (after (in_text 1 given) (93 ∷ rest)) (in_text 0 false) rest (deep_byte 1 given 93 rest (omega arith)) (in_open never))))

pub reads_comment : (q : Quotes) (rest : List ℕ) → IsBetween q (35 ∷ rest) → ReadsPiece IsComment (line_len (35 ∷ rest)) q (35 ∷ rest)
reads_comment q rest (after_comment ends) = absurd (omega (arith, ends))
reads_comment q rest (in_open {named} none) =
    reads_from IsComment (line_len (35 ∷ rest)) (line_len rest) (in_text 0 named) (opened 0 Comment) 35 rest (omega arith) (open_byte named 35 rest refl) (in_comment rest)

pub reads_dropped : (q : Quotes) (text : List ℕ) → IsBetween q text → is_dnl (word text) ≡ true → ReadsPiece IsDropped (whole_line_len text) q text
reads_dropped q [] between dnl = absurd cc
reads_dropped q (b ∷ bs) between dnl =
    let in_word = first_of_dnl b bs dnl in
    let count : whole_line_len (b ∷ bs) ≡ suc (whole_line_len bs) = rw (word_byte_not b 10 refl in_word) (omega arith) in
    reads_from IsDropped (whole_line_len (b ∷ bs)) (whole_line_len bs) q (opened 0 Dropped) b bs count
    (ap (λ (r : Quotes). after r (b ∷ bs)) (before_word q b bs between in_word) ∙ dropped_from b bs dnl) (in_dropped bs)

pub reads_word : (q : Quotes) (text : List ℕ) → IsBetween q text → 0 < word_len text → is_dnl (word text) ≡ false → ReadsPiece IsPlain (word_len text) q text
reads_word q [] between some none = absurd (omega (arith, some))
reads_word q (b ∷ bs) between some none =
    let in_word = some_word b bs some in
    reads_from IsPlain (word_len (b ∷ bs)) (word_len bs) q (in_text 0 true) b bs (word_len_some b bs in_word)
    (ap (λ (r : Quotes). after r (b ∷ bs)) (before_word q b bs between in_word) ∙ open_byte false b bs none ∙ word_byte_text b in_word) (after_word bs)

pub reads_byte : (q : Quotes) (b : ℕ) (rest : List ℕ) → IsBetween q (b ∷ rest) → IsOrdinary b → ReadsPiece IsPlain 1 q (b ∷ rest)
reads_byte q b rest (in_open {named} none) other =
    reads_from IsPlain 1 0 (in_text 0 named) (in_text 0 false) b rest refl
    (open_byte named b rest (no_dnl_at b rest other.word) ∙ other_text 0 b other.opens other.closes (inr other.hash) ∙ ap (in_text 0) other.word) (in_open never)
reads_byte q b rest (after_comment ends) other =
    reads_from IsPlain 1 0 (opened 0 Comment) (in_text 0 false) b rest refl (after_newline b rest ends) (in_open never)

-- ---- any piece

anything : (Within : Quotes → Type 0) (n : ℕ) (q : Quotes) (text : List ℕ) → Along Within IsBetween n q text → Along (λ within. Unit {0}) IsBetween n q text
anything Within zero q text along = along
anything Within (suc n) q [] along = along
anything Within (suc n) q (b ∷ bs) along = (tt, anything Within n (after q (b ∷ bs)) bs along.1)

any_piece : (Within : Quotes → Type 0) (n : ℕ) (q : Quotes) (text : List ℕ) → ReadsPiece Within n q text → ReadsPiece (λ within. Unit {0}) n q text
any_piece Within zero q text along = along
any_piece Within (suc n) q [] along = along
any_piece Within (suc n) q (b ∷ bs) along = anything Within n (after q (b ∷ bs)) bs along

pub reads_piece : (room n : ℕ) (q : Quotes) (text : List ℕ) → room ≤ 255 → IsBetween q text → IsPiece room text n → ReadsPiece (λ within. Unit {0}) n q text
reads_piece room n q text fits between (kind, front) = by_front front fits between where
  by_front : {room : ℕ} {text : List ℕ} {n : ℕ} {kind : _} → IsFront room text kind n → room ≤ 255 → IsBetween q text → ReadsPiece (λ within. Unit {0}) n q text
  by_front (quoted {room} {inside} balanced rest) fits between = any_piece IsQuoted (length inside + 2) q (91 ∷ (inside ++ 93 ∷ rest)) (reads_quoted room q inside rest (omega (arith, fits)) between balanced)
  by_front (comment {room} {rest}) fits between = any_piece IsComment (line_len (35 ∷ rest)) q (35 ∷ rest) (reads_comment q rest between)
  by_front (dropped {room} {text} dnl) fits between = any_piece IsDropped (whole_line_len text) q text (reads_dropped q text between dnl)
  by_front (name {room} {text} given) fits between = any_piece IsPlain (word_len text) q text (reads_word q text between (name_len text given) (name_not_dnl (word text) given))
  by_front (other_word {room} {text} some none no_name) fits between = any_piece IsPlain (word_len text) q text (reads_word q text between some none)
  by_front (other_byte {room} {b} {rest} other) fits between = any_piece IsPlain 1 q (b ∷ rest) (reads_byte q b rest between other)
