-- Fronts, ends and lines of a text.
use Rattle.std.proofs.Common.{◌≡◌, ℕ, ◌+◌, ◌-◌, ◌<◌, ◌≤◌, ◌==◌, true, false, not, min, List, [], ◌∷◌, ◌++◌, length, take, drop, flat_map, get_or, Option, Some, None, Bor, ap, sym, ◌∙◌, refl, arith, append_assoc, append-nil, length-take, length-drop, take_all, ◌↔◌, ◌⊎◌, ⊎_elim}
use Rattle.std.specs.Prelude.{codes, option_map, bytes_eq, IsOk, OnOk, Result, Ok, Err}
use Rattle.std.specs.List.{after_last, suffix_len}
use Rattle.std.specs.Option.{MatchOption, option_or}
use Rattle.std.proofs.lemmas.Bool.{false≢true}
use Rattle.std.proofs.lemmas.Bool.Decides.{nat_tests}
use Rattle.std.proofs.lemmas.Grind.{flat_map-append}
use Rattle.std.proofs.lemmas.List.{take-append-le, take_more, take_min}
use Rattle.std.proofs.lemmas.List.Sums.{suffix_len_is}
use Rattle.std.proofs.Math.Seq.{take-append-add}
use Rattle.memchr.specs.Find.{IsLastByte, is_byte}
use Rattle.deftable.proofs.Fronts.{stripped}
use Rattle.crew_progress.specs.Subject.{before_end, after_front, directory_in, last_line, line_front, name_in, search_text, words_of}

-- What `strip_suffix` and `strip_prefix` return.
pub before_end_is : (back text : List ℕ) (r : Option (Bor (List ℕ)))
    → MatchOption r (bytes_eq (drop (length text - length back) text) back ≡ false) (λ x. (bytes_eq (drop (length text - length back) text) back ≡ true) × (x.now ≡ take (length text - length back) text) × (length x.now + length back ≡ length text))
    → option_map (λ t. t.now) r ≡ before_end back text
unfolding before_end
before_end_is back text None lacks = rw lacks refl
before_end_is back text (Some x) has = rw (has.0) (ap (λ t. Some t) has.1)

pub after_front_is : (front text : List ℕ) (r : Option (Bor (List ℕ)))
    → MatchOption r (bytes_eq (take (length front) text) front ≡ false) (λ x. (bytes_eq (take (length front) text) front ≡ true) × (x.now ≡ drop (length front) text) × (length x.now + length front ≡ length text))
    → option_map (λ t. t.now) r ≡ after_front front text
unfolding after_front
after_front_is front text r is = stripped front text r is

cases_le : (a b : ℕ) → (a ≤ b) ⊎ (b ≤ a)
cases_le a b = grind arith

front_below : (line next more text : List ℕ) (left : ℕ) → left + length line ≡ 79 → next ≡ line ++ take left more → line ≡ take 79 text → length text ≤ 79 → next ≡ take 79 (text ++ more)
front_below line next more text left left_is put is below =
    let whole : line ≡ text = is ∙ take_all 79 text below in
    let all : length text + left ≡ 79 = omega (arith, ap length whole) in
    put ∙ ap (λ v. v ++ take left more) whole ∙ sym (take-append-add text more left) ∙ ap (λ n. take n (text ++ more)) all

front_above : (line next more text : List ℕ) (left : ℕ) → left + length line ≡ 79 → next ≡ line ++ take left more → line ≡ take 79 text → 79 ≤ length text → next ≡ take 79 (text ++ more)
front_above line next more text left left_is put is above =
    let none : left ≡ 0 = omega (arith, ap length is, length-take 79 text) in
    put ∙ ap (λ n. line ++ take n more) none ∙ append-nil line ∙ is ∙ sym (take-append-le 79 text more above)

-- As much of a text as fits, after more of it.
pub front_more : {E : Type 0} (line next more text : List ℕ) (left room : ℕ) (r : Result (Unit {0}) E) → left + length line ≡ 79 → room ≡ min left (length more)
    → IsOk r ↔ (length line + length (take room more) ≤ 79) → OnOk r (next ≡ line ++ take room more) → line ≡ line_front text → next ≡ line_front (text ++ more)
front_more line next more text left room (Err e) left_is room_is variant next_is is =
    absurd (false≢true (variant.1 (omega (arith, length-take room more, room_is))))
front_more line next more text left room (Ok u) left_is room_is variant next_is is =
    let put : next ≡ line ++ take left more = next_is ∙ ap (λ n. line ++ take n more) room_is ∙ ap (λ v. line ++ v) (take_min left more) in
    ⊎_elim (λ below. front_below line next more text left left_is put is below) (λ above. front_above line next more text left left_is put is above) (cases_le (length text) 79)

pub nothing_yet : (line : List ℕ) → line ≡ [] → line ≡ line_front []
nothing_yet line is = is

-- One more turn of the loop over words.
pub words_more : (next : List ℕ) (words : List (List ℕ)) (i : ℕ) (word : List ℕ) → i < length words → word ≡ get_or words i word
    → next ≡ line_front (flat_map (λ w. 32 ∷ w) (take i words) ++ 32 ∷ word) → next ≡ line_front (flat_map (λ w. 32 ∷ w) (take (i + 1) words))
words_more next words i word lt is next_is =
    let blank : List ℕ → List ℕ = λ w. 32 ∷ w in
    let more : flat_map blank (take (i + 1) words) ≡ flat_map blank (take i words) ++ 32 ∷ word =
    ap (flat_map blank) (take_more words i word lt ∙ ap (λ w. take i words ++ w ∷ []) (sym is))
    ∙ flat_map-append blank (take i words) (word ∷ []) ∙ ap (λ v. flat_map blank (take i words) ++ v) (append-nil (32 ∷ word)) in
    next_is ∙ ap line_front (sym more)

pub words_all : (line : List ℕ) (words : List (List ℕ)) (i : ℕ) → length words ≤ i → line ≡ line_front (flat_map (λ w. 32 ∷ w) (take i words)) → line ≡ line_front (words_of words)
unfolding words_of
words_all line words i le is = is ∙ ap (λ ws. line_front (flat_map (λ w. 32 ∷ w) ws)) (take_all i words le)

-- What follows the last place of a byte.
other_is : (byte b : ℕ) → (is_byte byte b ≡ true → ⊥) → not (b == byte) ≡ true
other_is byte b other = grind (arith, nat_tests)

same_is : (byte b : ℕ) → is_byte byte b ≡ true → not (b == byte) ≡ false
same_is byte b same = ap not same

after_byte : (byte : ℕ) (text rest : List ℕ) (at : ℕ) → IsLastByte (is_byte byte) text (Some at) → rest ≡ take (length text - (at + 1)) (drop (at + 1) text)
    → rest ≡ after_last (λ b. b == byte) text
after_byte byte text rest at last is =
    let n : ℕ = at + 1 in
    let high : at < length text = last.0.high in
    let whole : take (length text - n) (drop n text) ≡ drop n text = take_all (length text - n) (drop n text) (omega (arith, length-drop n text)) in
    let back : n - 1 ≡ at = omega arith in
    let len : suffix_len (λ x. not (x == byte)) text ≡ length text - n =
    suffix_len_is (λ x. not (x == byte)) text n 0 (omega arith) (λ k low below. other_is byte (get_or text k 0) (last.0.after k low below)) (λ _. ap (λ m. not (get_or text m 0 == byte)) back ∙ same_is byte (get_or text at 0) last.1) in
    let start : n ≡ length text - suffix_len (λ x. not (x == byte)) text = omega (arith, len) in
    is ∙ whole ∙ ap (λ m. drop m text) start

no_byte : (byte : ℕ) (text rest : List ℕ) → IsLastByte (is_byte byte) text None → rest ≡ text → rest ≡ after_last (λ b. b == byte) text
no_byte byte text rest none is =
    let len : suffix_len (λ x. not (x == byte)) text ≡ length text - 0 =
    suffix_len_is (λ x. not (x == byte)) text 0 0 (omega arith) (λ k low below. other_is byte (get_or text k 0) (none k low below)) (λ lt. absurd (omega arith)) in
    let start : 0 ≡ length text - suffix_len (λ x. not (x == byte)) text = omega (arith, len) in
    is ∙ ap (λ m. drop m text) start

pub after_newline : (text rest : List ℕ) (at : ℕ) → IsLastByte (is_byte 10) text (Some at) → rest ≡ take (length text - (at + 1)) (drop (at + 1) text) → rest ≡ last_line text
unfolding last_line
after_newline text rest at last is = after_byte 10 text rest at last is

pub no_newline : (text rest : List ℕ) → IsLastByte (is_byte 10) text None → rest ≡ text → rest ≡ last_line text
unfolding last_line
no_newline text rest none is = no_byte 10 text rest none is

pub after_slash : (path rest : List ℕ) (at : ℕ) → IsLastByte (is_byte 47) path (Some at) → rest ≡ take (length path - (at + 1)) (drop (at + 1) path) → rest ≡ name_in path
unfolding name_in
after_slash path rest at last is = after_byte 47 path rest at last is

pub no_slash : (path rest : List ℕ) → IsLastByte (is_byte 47) path None → rest ≡ path → rest ≡ name_in path
unfolding name_in
no_slash path rest none is = no_byte 47 path rest none is

pub before_slash : (path front : List ℕ) (at : ℕ) → IsLastByte (is_byte 47) path (Some at) → front ≡ take at path → front ≡ directory_in path
unfolding directory_in
before_slash path front at last is =
    let high : at < length path = last.0.high in
    let rest : List ℕ = take (length path - (at + 1)) (drop (at + 1) path) in
    let whole : rest ≡ drop (at + 1) path = take_all (length path - (at + 1)) (drop (at + 1) path) (omega (arith, length-drop (at + 1) path)) in
    let long : length rest ≡ length path - (at + 1) = ap length whole ∙ length-drop (at + 1) path in
    let named : length (name_in path) ≡ length path - (at + 1) = ap length (sym (after_slash path rest at last refl)) ∙ long in
    is ∙ ap (λ n. take n path) (omega (arith, named))

pub without_slash : (path front : List ℕ) → IsLastByte (is_byte 47) path None → front ≡ [] → front ≡ directory_in path
unfolding directory_in
without_slash path front none is =
    let named : length (name_in path) ≡ length path = ap length (sym (no_slash path path none refl)) in
    let none_left : 0 ≡ length path - (length (name_in path) + 1) = omega (arith, named) in
    is ∙ ap (λ n. take n path) none_left

-- The one or the other, if something is told.
abbrev Told : Type 0
Told = Option (Bor (List ℕ) × Bor (List ℕ))

abbrev text_told : Told → Option (List ℕ)
text_told told = option_map (λ t. t.0.now ++ t.1.now) told

either_text : (a b : Told) → text_told (option_or a b) ≡ option_or (text_told a) (text_told b)
either_text None b = refl
either_text (Some told) b = refl

pub either_told : (a b r : Told) (x y : Option (List ℕ)) → r ≡ option_or a b → text_told a ≡ x → text_told b ≡ y → text_told r ≡ option_or x y
either_told a b r x y is first second =
    ap text_told is ∙ either_text a b ∙ ap (λ v. option_or v (text_told b)) first ∙ ap (option_or x) second

-- Two texts that were put, one after the other.
pub put_both : (line next : List ℕ) (first second word text : List ℕ) → line ≡ line_front (text ++ first) → second ≡ word → next ≡ line_front ((text ++ first) ++ second) → next ≡ line_front (text ++ (first ++ word))
put_both line next first second word text put_is second_is next_is = next_is ∙ ap line_front (append_assoc text first second) ∙ ap (λ v. line_front (text ++ (first ++ v))) second_is

-- Four texts that were put, one after the other.
pub search_is : (line name directory : List ℕ) → line ≡ line_front (codes " looking for " ++ name ++ codes " in " ++ directory) → line ≡ line_front (search_text name directory)
unfolding search_text
search_is line name directory is = is
