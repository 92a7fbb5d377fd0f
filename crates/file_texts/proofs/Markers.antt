-- The marker, line after line.
use Rattle.std.proofs.Common.{◌≡◌, ◌≢◌, ℕ, ◌+◌, ◌-◌, ◌<◌, ◌≤◌, true, false, List, [], ◌++◌, length, take, drop, sym, ap, subst, ◌∙◌, append_assoc, arith}
use Rattle.std.proofs.lemmas.List.{length-drop, drop-drop, take_rest, append-nil}
use Rattle.std.proofs.Math.Seq.{take-add}
use Rattle.std.proofs.lemmas.List.Folds.{length-prefix_len}
use Rattle.std.proofs.lemmas.Slice.Eq.{bytes_eq-Decides}
use Rattle.file_texts.specs.Parted.{line_len, first_line, after_line, marker, IsParted, here, later, HasNoMarker, last_line, line, is_marker}

-- The split of the rest of the input from start on gives that of the whole, with the lines before it.
pub record StandsFor (input : List ℕ) (start : ℕ) : Type 0 where
  pub parted : (source template : List ℕ) → IsParted (drop start input) source template → IsParted input (take start input ++ source) template
  pub unmarked : HasNoMarker (drop start input) → HasNoMarker input

pub stands_at_first : (input : List ℕ) → StandsFor input 0
stands_at_first input = record { parted = λ s t h. h; unmarked = λ h. h }

line_of_marker : (text : List ℕ) → first_line text ≡ marker → line_len text ≡ 2
line_of_marker text is = sym (length-prefix_len _ text) ∙ ap length is

-- One more line that is not the marker.
pub stands_at_next : (input : List ℕ) (start len : ℕ) → len ≡ line_len (drop start input) → first_line (drop start input) ≢ marker → start + len < length input
    → StandsFor input start → StandsFor input (start + (len + 1))
stands_at_next input start len is other inside h =
    let text : List ℕ = drop start input in
    let sum : start + (line_len text + 1) ≡ start + (len + 1) = omega (arith, is) in
    let short : line_len text < length text = omega (arith, is, length-drop start input) in
    let after : after_line text ≡ drop (start + (len + 1)) input = drop-drop (line_len text + 1) start input ∙ ap (λ n. drop n input) sum in
    record {
      parted = λ source template p.
          let q : IsParted text (take (line_len text + 1) text ++ source) template = later other short (subst (λ l. IsParted l source template) (sym after) p) in
          let front : take start input ++ (take (line_len text + 1) text ++ source) ≡ take (start + (len + 1)) input ++ source =
          sym (append_assoc (take start input) (take (line_len text + 1) text) source)
          ∙ ap (λ l. l ++ source) (sym (take-add start (line_len text + 1) input) ∙ ap (λ n. take n input) sum) in
          subst (λ l. IsParted input l template) front (h.parted _ template q);
      unmarked = λ u. h.unmarked (line other short (subst HasNoMarker (sym after) u));
    }

-- The line is the marker.
pub parted_here : (input : List ℕ) (start : ℕ) → first_line (drop start input) ≡ marker → StandsFor input start → IsParted input (take start input) (drop (start + 3) input)
parted_here input start is h =
    let text : List ℕ = drop start input in
    let two : line_len text ≡ 2 = line_of_marker text is in
    let sum : start + (line_len text + 1) ≡ start + 3 = omega (arith, two) in
    let after : after_line text ≡ drop (start + 3) input = drop-drop (line_len text + 1) start input ∙ ap (λ n. drop n input) sum in
    subst (λ l. IsParted input l (drop (start + 3) input)) (append-nil (take start input))
    (h.parted [] (drop (start + 3) input) (subst (IsParted text []) after (here is)))

-- No line is left.
pub unmarked_here : (input : List ℕ) (start len : ℕ) → len ≡ line_len (drop start input) → first_line (drop start input) ≢ marker → start ≤ length input → start + len ≡ length input
    → StandsFor input start → HasNoMarker input
unmarked_here input start len is other within all h =
    let text : List ℕ = drop start input in
    let long : line_len text ≡ length text = omega (arith, is, length-drop start input) in
    h.unmarked (last_line other long)

-- ---- as the loop uses them

pub is_line_len : (input : List ℕ) (start len : ℕ) → len ≡ line_len (take (length input - start) (drop start input)) → len ≡ line_len (drop start input)
is_line_len input start len is = is ∙ ap line_len (take_rest input start)

pub is_first_line : (input : List ℕ) (start len : ℕ) → len ≡ line_len (drop start input) → take (start + len - start) (drop start input) ≡ first_line (drop start input)
is_first_line input start len is =
    let n : start + len - start ≡ line_len (drop start input) = omega (arith, is) in
    ap (λ n. take n (drop start input)) n

pub marker_true : (text : List ℕ) → is_marker text ≡ true → text ≡ marker
marker_true text e = (bytes_eq-Decides text marker).0 e

pub marker_false : (text : List ℕ) → is_marker text ≡ false → text ≢ marker
marker_false text e is = absurd (differ (sym e ∙ (bytes_eq-Decides text marker).1 is))
  where
    differ : false ≡ true → ⊥
    differ h = cc
