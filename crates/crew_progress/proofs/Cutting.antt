-- What a line shows of a text that grows.
use Rattle.std.proofs.Common.{◌≡◌, ℕ, ◌+◌, ◌-◌, ◌<◌, ◌≤◌, List, [], ◌∷◌, ◌++◌, length, take, flat_map, get_or, sym, ap, ◌∙◌, refl, subst, cond, eqb, codes, Bool, true, false, arith, append_assoc, append-nil, length-append, take_all, ◌↔◌}
use Rattle.std.specs.Prelude.{decimal, nat_le, IsOk, OnOk, Result, Ok, Err}
use Rattle.std.proofs.lemmas.Bool.{true≢false, false≢true, le-leb, lt-leb}
use Rattle.std.proofs.lemmas.Bool.Decides.{nat_tests}
use Rattle.std.proofs.lemmas.List.{take_more}
use Rattle.std.proofs.lemmas.Grind.{flat_map-append}
use Rattle.crew_progress.specs.Screen.{shown_byte, fitting, shown, IsShowing}
use Rattle.crew_progress.specs.Progress.{line_of, text_of, erasure, wrapping_off, wrapping_on}

-- A text that fits is followed by what fits in the columns that are left.
fitting_after : (n : ℕ) (xs ys : List ℕ) → length (flat_map shown_byte xs) ≤ n → fitting n (xs ++ ys) ≡ flat_map shown_byte xs ++ fitting (n - length (flat_map shown_byte xs)) ys
fitting_after n [] ys le = let same : n ≡ n - 0 = omega arith in ap (λ m. fitting m ys) same
fitting_after n (x ∷ xs) ys le =
    let form : List ℕ = shown_byte x in
    let rest : List ℕ = flat_map shown_byte xs in
    let both : length (form ++ rest) ≡ length form + length rest = length-append form rest in
    let whole : length (form ++ rest) ≤ n = le in
    let first : nat_le (length form) n ≡ true = le-leb (length form) n (omega arith) in
    let left : (n - length form) - length rest ≡ n - length (form ++ rest) = omega arith in
    ap (λ b. cond b (form ++ fitting (n - length form) (xs ++ ys)) []) first ∙ ap (λ v. form ++ v) (fitting_after (n - length form) xs ys (omega arith))
    ∙ sym (append_assoc form rest (fitting ((n - length form) - length rest) ys)) ∙ ap (λ m. (form ++ rest) ++ fitting m ys) left

-- One more byte makes what is shown longer.
shown_longer : (text : List ℕ) (byte : ℕ) → length (flat_map shown_byte (text ++ byte ∷ [])) ≡ length (flat_map shown_byte text) + length (shown_byte byte)
shown_longer text byte =
    ap length (flat_map-append shown_byte text (byte ∷ []) ∙ ap (λ v. flat_map shown_byte text ++ v) (append-nil (shown_byte byte)))
    ∙ length-append (flat_map shown_byte text) (shown_byte byte)

-- Once something didn't fit, nothing more is shown.
pub put_after_cut : (n : ℕ) (line : List ℕ) (is_cut : Bool) (text : List ℕ) (byte : ℕ) → is_cut ≡ true → IsShowing n line is_cut text → IsShowing n line is_cut (text ++ byte ∷ [])
put_after_cut n line is_cut text byte is h = record {
  fits = h.fits;
  whole = λ no. absurd (true≢false (sym is ∙ no));
  cut = λ yes more. ap (fitting n) (append_assoc text (byte ∷ []) more) ∙ h.cut yes (byte ∷ more);
  over = λ yes. let was = h.over yes in omega (arith, shown_longer text byte);
}

-- A form for which there is no room.
pub put_without_room : (n : ℕ) (line form : List ℕ) (was : Bool) (left : ℕ) (text : List ℕ) (byte : ℕ) → was ≡ false → left + length line ≡ n → left < length form → form ≡ shown_byte byte
    → IsShowing n line was text → IsShowing n line true (text ++ byte ∷ [])
put_without_room n line form was left text byte was_is room lacks form_is h =
    let all : line ≡ flat_map shown_byte text = h.whole was_is in
    let len : length line ≡ length (flat_map shown_byte text) = ap length all in
    let none : nat_le (length (shown_byte byte)) (n - length (flat_map shown_byte text)) ≡ false =
    lt-leb (length (shown_byte byte)) (n - length (flat_map shown_byte text)) (omega (arith, len, ap length form_is)) in
    record {
      fits = h.fits;
      whole = λ no. absurd (true≢false no);
      cut = λ _ more.
          ap (fitting n) (append_assoc text (byte ∷ []) more) ∙ fitting_after n text (byte ∷ more) (omega (arith, len))
          ∙ ap (λ b. flat_map shown_byte text ++ cond b (shown_byte byte ++ fitting ((n - length (flat_map shown_byte text)) - length (shown_byte byte)) more) []) none
          ∙ append-nil (flat_map shown_byte text) ∙ sym all;
      over = λ _. omega (arith, len, ap length form_is, shown_longer text byte);
    }

-- A form for which there is room.
pub put_with_room : {E : Type 0} (n : ℕ) (line next form : List ℕ) (was : Bool) (left : ℕ) (r : Result (Unit {0}) E) (text : List ℕ) (byte : ℕ) → was ≡ false → left + length line ≡ n
    → length form ≤ left → IsOk r ↔ (length line + length form ≤ n) → OnOk r (next ≡ line ++ form) → form ≡ shown_byte byte → IsShowing n line was text → IsShowing n next was (text ++ byte ∷ [])
put_with_room n line next form was left (Err e) text byte was_is room fits variant next_is form_is h = absurd (false≢true (variant.1 (omega arith)))
put_with_room n line next form was left (Ok u) text byte was_is room fits variant next_is form_is h = record {
  fits = omega (arith, ap length next_is, length-append line form);
  whole = λ no. next_is ∙ ap (λ v. v ++ form) (h.whole was_is) ∙ ap (λ v. flat_map shown_byte text ++ v) (form_is ∙ sym (append-nil (shown_byte byte)))
      ∙ sym (flat_map-append shown_byte text (byte ∷ []));
  cut = λ yes. absurd (true≢false (sym yes ∙ was_is));
  over = λ yes. absurd (true≢false (sym yes ∙ was_is));
}

-- One more turn of the loop over bytes.
pub put_more : (n : ℕ) (line : List ℕ) (is_cut : Bool) (text more : List ℕ) (i : ℕ) → i < length more → IsShowing n line is_cut ((text ++ take i more) ++ get_or more i 0 ∷ []) → IsShowing n line is_cut (text ++ take (i + 1) more)
put_more n line is_cut text more i lt h =
    subst (IsShowing n line is_cut) (append_assoc text (take i more) (get_or more i 0 ∷ []) ∙ ap (λ v. text ++ v) (sym (take_more more i 0 lt))) h

pub put_none : (n : ℕ) (line : List ℕ) (is_cut : Bool) (text more : List ℕ) → IsShowing n line is_cut text → IsShowing n line is_cut (text ++ take 0 more)
put_none n line is_cut text more h = subst (IsShowing n line is_cut) (sym (append-nil text)) h

pub put_all : (n : ℕ) (line : List ℕ) (is_cut : Bool) (text more : List ℕ) (i : ℕ) → length more ≤ i → IsShowing n line is_cut (text ++ take i more) → IsShowing n line is_cut (text ++ more)
put_all n line is_cut text more i le h = subst (λ v. IsShowing n line is_cut (text ++ v)) (take_all i more le) h

pub nothing_shown : (n : ℕ) (line : List ℕ) (is_cut : Bool) → line ≡ [] → is_cut ≡ false → IsShowing n line is_cut []
nothing_shown n line is_cut is whole = record {
  fits = omega (arith, ap length is);
  whole = λ _. is;
  cut = λ yes. absurd (true≢false (sym yes ∙ whole));
  over = λ yes. absurd (true≢false (sym yes ∙ whole));
}

-- What a line shows.
pub showing_is : (n : ℕ) (line : List ℕ) (is_cut : Bool) (text : List ℕ) → IsShowing n line is_cut text → line ≡ fitting n text
showing_is n line true text h = sym (h.cut refl []) ∙ ap (fitting n) (append-nil text)
showing_is n line false text h =
    let all : line ≡ flat_map shown_byte text = h.whole refl in
    let le = h.fits in
    all ∙ sym (append-nil (flat_map shown_byte text)) ∙ sym (fitting_after n text [] (omega (arith, ap length all))) ∙ ap (fitting n) (append-nil text)

shown_is : (line : List ℕ) (is_cut : Bool) (text : List ℕ) → IsShowing 79 line is_cut text → line ≡ shown text
unfolding shown
shown_is line is_cut text h = showing_is 79 line is_cut text h

-- A line that five texts were put on, one after the other.
pub line_is : (line : List ℕ) (is_cut : Bool) (a b c d e : List ℕ) (started ended : ℕ) (subject : List ℕ) → a ≡ decimal started → b ≡ codes " started, " → c ≡ decimal ended → d ≡ codes " ended:" → e ≡ subject
    → IsShowing 79 line is_cut ((((([] ++ a) ++ b) ++ c) ++ d) ++ e) → line ≡ line_of started ended subject
unfolding line_of
line_is line is_cut a b c d e started ended subject a_is b_is c_is d_is e_is h =
    shown_is line is_cut ((((([] ++ a) ++ b) ++ c) ++ d) ++ e) h
    ∙ ap (λ x. shown (x ++ b ++ c ++ d ++ e)) a_is ∙ ap (λ x. shown (decimal started ++ x ++ c ++ d ++ e)) b_is
    ∙ ap (λ x. shown (decimal started ++ codes " started, " ++ x ++ d ++ e)) c_is
    ∙ ap (λ x. shown (decimal started ++ codes " started, " ++ decimal ended ++ x ++ e)) d_is
    ∙ ap (λ x. shown (decimal started ++ codes " started, " ++ decimal ended ++ codes " ended:" ++ x)) e_is

-- What is written if all have ended, and otherwise.
pub none_left : (text : List ℕ) (started ended : ℕ) (subject : List ℕ) → text ≡ erasure → ended ≡ started → text ≡ text_of started ended subject
unfolding text_of
none_left text started ended subject is same =
    let test : eqb ended started ≡ true = grind (arith, nat_tests) in
    is ∙ sym (ap (λ b. erasure ++ cond b [] (wrapping_off ++ line_of started ended subject ++ wrapping_on)) test)

pub some_left : (text line : List ℕ) (started ended : ℕ) (subject : List ℕ) → text ≡ erasure ++ (wrapping_off ++ line ++ wrapping_on) → line ≡ line_of started ended subject → (ended ≡ started → ⊥) → text ≡ text_of started ended subject
unfolding text_of
some_left text line started ended subject is line_is other =
    let test : eqb ended started ≡ false = grind (arith, nat_tests) in
    is ∙ ap (λ l. erasure ++ (wrapping_off ++ l ++ wrapping_on)) line_is ∙ sym (ap (λ b. erasure ++ cond b [] (wrapping_off ++ line_of started ended subject ++ wrapping_on)) test)
