-- A line has no control byte.
use Rattle.std.proofs.Common.{◌≡◌, ℕ, suc, ◌<◌, ◌≤◌, Bool, true, false, List, [], ◌∷◌, ◌++◌, get_or, Fits, w8, refl, sym, subst, arith, rules}
use Rattle.std.specs.Prelude.{◌/◌, ◌%◌, ◌&&◌, ◌||◌, not, if◌then◌else◌, All, nat_lt, codes}
use Rattle.std.specs.Str.{is_utf8}
use Rattle.std.proofs.lemmas.Bool.Decides.{nat_tests}
use Rattle.std.proofs.lemmas.Grind.{common_steps}
use Rattle.std.proofs.lemmas.List.Elements.{All-append, All-cons, All-from_get_or}
use Rattle.crew_refusals.specs.Shown.{digit, is_control, shown_byte, shown_with, shown, IsCauseOf, IsShown, line_of}

plain : (b : ℕ) → 32 ≤ b → b < 127 → is_control b ≡ false
plain b low high = grind (arith, nat_tests)

digit_low : (n : ℕ) → n < 16 → 48 ≤ digit n
digit_low n lt = grind (arith, nat_tests)

digit_high : (n : ℕ) → n < 16 → digit n < 127
digit_high n lt = grind (arith, nat_tests)

one_digit : (n : ℕ) → n < 16 → is_control (digit n) ≡ false
one_digit n lt = let low = digit_low n lt in plain (digit n) (omega (arith, low)) (digit_high n lt)

none : IsShown []
none k d lt = absurd (omega arith)

more : (b : ℕ) (text : List ℕ) → is_control b ≡ false → IsShown text → IsShown (b ∷ text)
more b text is rest = All-cons (λ x. is_control x ≡ false) b text is rest

escape : (b : ℕ) → b < 256 → IsShown (92 ∷ 120 ∷ digit (b / 16) ∷ digit (b % 16) ∷ [])
escape b lt =
    let high : is_control (digit (b / 16)) ≡ false = one_digit (b / 16) (search (rules, common_steps)) in
    let low : is_control (digit (b % 16)) ≡ false = one_digit (b % 16) (search (rules, common_steps)) in
    let last = digit (b % 16) ∷ [] in
    let both = digit (b / 16) ∷ last in
    more 92 (120 ∷ both) refl (more 120 both refl (more (digit (b / 16)) last high (more (digit (b % 16)) [] low none)))

off_left : (x y : Bool) → (x || y) ≡ false → x ≡ false
off_left true y e = e
off_left false y e = refl

byte_with : (test : Bool) (b : ℕ) → (test ≡ false → is_control b ≡ false) → b < 256
    → IsShown (if test then 92 ∷ 120 ∷ digit (b / 16) ∷ digit (b % 16) ∷ [] else b ∷ [])
byte_with true b is lt = escape b lt
byte_with false b is lt = more b [] (is refl) none

one_byte : (is_text : Bool) (b : ℕ) → b < 256 → IsShown (shown_byte is_text b)
unfolding shown_byte
one_byte is_text b lt =
    byte_with (is_control b || (nat_lt 127 b && not is_text)) b (off_left (is_control b) (nat_lt 127 b && not is_text)) lt

bytes : (is_text : Bool) (text : List ℕ) → All (λ b. b < 256) text → IsShown (shown_with is_text text)
bytes is_text [] all = none
bytes is_text (b ∷ text) all = All-append (λ x. is_control x ≡ false) (shown_byte is_text b) (shown_with is_text text) (one_byte is_text b (all 0 b (omega arith))) (bytes is_text text (λ k d lt. all (suc k) d (omega arith)))

text_shown : (text : List ℕ) → All (λ b. b < 256) text → IsShown (shown text)
unfolding shown
text_shown text all = bytes (is_utf8 text) text all

bytes_fit : (text : List ℕ) → ((i : ℕ) → Fits w8 (get_or text i 0)) → All (λ b. b < 256) text
bytes_fit text fits = All-from_get_or (λ b. b < 256) text 0 (λ i lt. omega (arith, fits i))

-- the line of a name and some words has no control byte
pub line_shown : (name words line : List ℕ) → ((i : ℕ) → Fits w8 (get_or name i 0)) → ((i : ℕ) → Fits w8 (get_or words i 0)) → line ≡ line_of name words → IsShown line
unfolding line_of
line_shown name words line n w is =
    let colon : IsShown (codes ": ") = more 58 (32 ∷ []) refl (more 32 [] refl none) in
    let front = All-append (λ x. is_control x ≡ false) (shown name) (codes ": ") (text_shown name (bytes_fit name n)) colon in
    subst IsShown (sym is) (All-append (λ x. is_control x ≡ false) (shown name ++ codes ": ") (shown words) front (text_shown words (bytes_fit words w)))

-- words of a name are a cause of it
pub of_words : (name words line : List ℕ) → line ≡ line_of name words → IsCauseOf name line
of_words name words line is = record { words = words; is = is }
