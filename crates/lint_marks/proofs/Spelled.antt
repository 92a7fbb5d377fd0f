-- A text that m4quote reads consists of pieces.
use Rattle.std.proofs.Common.{◌≡◌, ◌≢◌, ℕ, zero, suc, ◌+◌, ◌≤◌, Bool, true, false, ◌||◌, not, ◌==◌, ◌⊎◌, inl, inr, List, [], ◌∷◌, length, drop, refl, sym, ap, subst, ◌∙◌, arith}
use Rattle.std.proofs.lemmas.List.{drop-drop, length-append, length-drop}
use Rattle.std.proofs.lemmas.List.Sums.{prefix_len-le-length}
use Rattle.std.proofs.lemmas.Bool.{eqb-true, eqb-false, cases_Bool, or_cases}
use Rattle.m4quote.specs.ItemValue.{Span, ItemValue}
use Rattle.m4quote.specs.Text.{is_word_byte, is_blank, blank_len}
use Rattle.m4quote.specs.Spelling.{Balanced, empty, byte, group, IsOrdinary, IsFront, quoted, comment, dropped, name, other_word, other_byte, IsInside, no_more, piece, parens, AreArguments, last, more, Spells, nothing, bare_text, dropped_line, bare_name, with_arguments, IsSpelling}
use Rattle.lint_marks.specs.Fronts.{IsPiece, ArePieces}
use Rattle.lint_marks.specs.Fronts as cut

-- ---- pieces

piece_of : {room n : ℕ} {text : List ℕ} {kind : _} → IsFront room text kind n → IsPiece room text n
piece_of {kind = kind} front = (kind, front)

byte_piece : (room b : ℕ) (rest : List ℕ) → IsOrdinary b → IsPiece room (b ∷ rest) 1
byte_piece room b rest other = piece_of (other_byte other)

counted : (room m n : ℕ) (text : List ℕ) → m ≡ n → ArePieces room text m → ArePieces room text n
counted room m n text e pieces = subst (λ (k : ℕ). ArePieces room text k) e pieces

moved : (room n : ℕ) (s t : List ℕ) → s ≡ t → ArePieces room s n → ArePieces room t n
moved room n s t e pieces = subst (λ (x : List ℕ). ArePieces room x n) e pieces

both : {room : ℕ} {text : List ℕ} {m : ℕ} → ArePieces room text m → (n : ℕ) → ArePieces room (drop m text) n → ArePieces room text (m + n)
both (cut.no_more {room} {text}) n others = counted room n (0 + n) text (omega arith) others
both (cut.one_more {room} {k} {n = m} {text} first rest) n others =
    counted room (k + (m + n)) (k + m + n) text (omega arith)
    (cut.one_more first (both rest n (moved room n (drop (k + m) text) (drop m (drop k text)) (sym (drop-drop m k text)) others)))

-- ---- more room

balanced_more : {room : ℕ} {inside : List ℕ} → Balanced room inside → (most : ℕ) → room ≤ most → Balanced most inside
balanced_more empty most le = empty
balanced_more (byte opens closes rest) most le = byte opens closes (balanced_more rest most le)
balanced_more (group inside rest) zero le = absurd (omega (arith, le))
balanced_more (group inside rest) (suc most) le = group (balanced_more inside most (omega (arith, le))) (balanced_more rest (suc most) le)

front_more : {room : ℕ} {text : List ℕ} {n : ℕ} {kind : _} → IsFront room text kind n → (most : ℕ) → room ≤ most → IsFront most text kind n
front_more (quoted balanced rest) zero le = absurd (omega (arith, le))
front_more (quoted balanced rest) (suc most) le = quoted (balanced_more balanced most (omega (arith, le))) rest
front_more comment most le = comment
front_more (dropped dnl) most le = dropped dnl
front_more (name given) most le = name given
front_more (other_word some no_dnl no_name) most le = other_word some no_dnl no_name
front_more (other_byte other) most le = other_byte other

-- ---- bytes of calls

blank_is : (b : ℕ) → is_blank b ≡ true → ((b ≡ 32) ⊎ (b ≡ 9)) ⊎ (b ≡ 10)
blank_is b blank =
    elim (or_cases (b == 32 || b == 9) (b == 10) blank) [
      | inl front ↦
          (elim (or_cases (b == 32) (b == 9) front) [
            | inl e ↦ inl (inl (eqb-true b 32 e))
            | inr e ↦ inl (inr (eqb-true b 9 e))
          ])
      | inr e ↦ inr (eqb-true b 10 e)
    ]

ordinary : (b c : ℕ) → b ≡ c → c ≢ 91 → c ≢ 93 → c ≢ 35 → is_word_byte c ≡ false → IsOrdinary b
ordinary b c e opens closes hash word = record { opens = λ h. opens (sym e ∙ h); closes = λ h. closes (sym e ∙ h); hash = λ h. hash (sym e ∙ h); word = ap is_word_byte e ∙ word }

blank_ordinary : (b : ℕ) → is_blank b ≡ true → IsOrdinary b
blank_ordinary b blank =
    elim (blank_is b blank) [
      | inl (inl e) ↦ ordinary b 32 e (eqb-false 32 91 refl) (eqb-false 32 93 refl) (eqb-false 32 35 refl) refl
      | inl (inr e) ↦ ordinary b 9 e (eqb-false 9 91 refl) (eqb-false 9 93 refl) (eqb-false 9 35 refl) refl
      | inr e ↦ ordinary b 10 e (eqb-false 10 91 refl) (eqb-false 10 93 refl) (eqb-false 10 35 refl) refl
    ]

open_ordinary : IsOrdinary 40
open_ordinary = ordinary 40 40 refl (eqb-false 40 91 refl) (eqb-false 40 93 refl) (eqb-false 40 35 refl) refl

close_ordinary : IsOrdinary 41
close_ordinary = ordinary 41 41 refl (eqb-false 41 91 refl) (eqb-false 41 93 refl) (eqb-false 41 35 refl) refl

comma_ordinary : IsOrdinary 44
comma_ordinary = ordinary 44 44 refl (eqb-false 44 91 refl) (eqb-false 44 93 refl) (eqb-false 44 35 refl) refl

-- one byte, and then others
after_byte : (room b n : ℕ) (rest : List ℕ) → IsOrdinary b → ArePieces room rest n → ArePieces room (b ∷ rest) (1 + n)
after_byte room b n rest other pieces = cut.one_more (byte_piece room b rest other) pieces

-- ---- arguments

inside_pieces : {room n : ℕ} {commas : Bool} {text : List ℕ} → IsInside room commas text n → (most : ℕ) → room ≤ most → ArePieces most text n
inside_pieces no_more most le = cut.no_more
inside_pieces (piece begins front others) most le = cut.one_more (piece_of (front_more front most le)) (inside_pieces others most le)
inside_pieces (parens {room} {k} {n} {commas} {text} {rest} inner closes outer) most le =
    let tail : ArePieces most (drop k text) (1 + n) = moved most (1 + n) (41 ∷ rest) (drop k text) (sym closes) (after_byte most 41 n rest close_ordinary (inside_pieces outer most le)) in
    counted most (1 + (k + (1 + n))) (k + 2 + n) (40 ∷ text) (omega arith)
    (after_byte most 40 (k + (1 + n)) text open_ordinary (both (inside_pieces inner most (omega (arith, le))) (1 + n) tail))

blanks : (room : ℕ) (text : List ℕ) → ArePieces room text (blank_len text)
blanks room [] = cut.no_more
blanks room (b ∷ bs) =
    elim (cases_Bool (is_blank b)) [
      | inl blank ↦ counted room (1 + blank_len bs) (blank_len (b ∷ bs)) (b ∷ bs) (rw blank refl) (after_byte room b (blank_len bs) bs (blank_ordinary b blank) (blanks room bs))
      | inr other ↦ counted room 0 (blank_len (b ∷ bs)) (b ∷ bs) (rw other refl) cut.no_more
    ]

-- an argument with the blanks before it, and the byte after it
argument_pieces : (n b m : ℕ) (text after : List ℕ) → IsInside 63 false (drop (blank_len text) text) n → drop (blank_len text + n) text ≡ b ∷ after → IsOrdinary b → ArePieces 64 after m
    → ArePieces 64 text (blank_len text + n + 1 + m)
argument_pieces n b m text after inside stop other pieces =
    let start = drop (blank_len text) text in
    let tail : ArePieces 64 (drop n start) (1 + m) = moved 64 (1 + m) (b ∷ after) (drop n start) (sym (drop-drop n (blank_len text) text ∙ stop)) (after_byte 64 b m after other pieces) in
    counted 64 (blank_len text + (n + (1 + m))) (blank_len text + n + 1 + m) text (omega arith)
    (both (blanks 64 text) (n + (1 + m)) (both (inside_pieces inside 64 (omega arith)) (1 + m) tail))

arguments_pieces : {at : ℕ} {text : List ℕ} {args : List Span} {n : ℕ} → AreArguments at text args n → ArePieces 64 text n
arguments_pieces (last {at} {n} {text} {after} inside stop) =
    counted 64 (blank_len text + n + 1 + 0) (blank_len text + n + 1) text (omega arith) (argument_pieces n 41 0 text after inside stop close_ordinary cut.no_more)
arguments_pieces (more {at} {n} {m} {text} {after} inside stop others) = argument_pieces n 44 m text after inside stop comma_ordinary (arguments_pieces others)

-- ---- a text

front_within : {room : ℕ} {text : List ℕ} {n : ℕ} {kind : _} → IsFront room text kind n → n ≤ length text
front_within (quoted {room} {inside} balanced rest) = omega (arith, length-append inside (93 ∷ rest))
front_within (comment {room} {rest}) = prefix_len-le-length (λ b. not (b == 10)) (35 ∷ rest)
front_within (dropped {room} {text} dnl) = omega arith
front_within (name {room} {text} given) = prefix_len-le-length is_word_byte text
front_within (other_word {room} {text} some no_dnl no_name) = prefix_len-le-length is_word_byte text
front_within (other_byte {room} {b} {rest} other) = omega arith

pieces_within : {room : ℕ} {text : List ℕ} {n : ℕ} → ArePieces room text n → n ≤ length text
pieces_within cut.no_more = omega arith
pieces_within (cut.one_more {room} {k} {n} {text} first rest) = omega (arith, front_within first.1, pieces_within rest, length-drop k text)

-- a piece, and what is after it
after_front : (n : ℕ) (text : List ℕ) → IsPiece 64 text n → ArePieces 64 (drop n text) (length (drop n text)) → ArePieces 64 text (length text)
after_front n text first rest = counted 64 (n + length (drop n text)) (length text) text (omega (arith, front_within first.1, length-drop n text)) (cut.one_more first rest)

spells_pieces : {at : ℕ} {text : List ℕ} {items : List ItemValue} → Spells at text items → ArePieces 64 text (length text)
spells_pieces nothing = cut.no_more
spells_pieces (bare_text {at} {n} {kind} {text} front bare rest) = after_front n text (piece_of front) (spells_pieces rest)
spells_pieces (dropped_line {at} {n} {text} front rest) = after_front n text (piece_of front) (spells_pieces rest)
spells_pieces (bare_name {at} {n} {text} front none rest) = after_front n text (piece_of front) (spells_pieces rest)
spells_pieces (with_arguments {at} {n} {m} {text} {inside} front opens args rest) =
    let given : ArePieces 64 inside m = arguments_pieces args in
    let whole : ArePieces 64 inside (length inside)
    = counted 64 (m + length (drop m inside)) (length inside) inside (omega (arith, pieces_within given, length-drop m inside)) (both given (length (drop m inside)) (spells_pieces rest)) in
    let call : ArePieces 64 (40 ∷ inside) (1 + length inside) = after_byte 64 40 (length inside) inside open_ordinary whole in
    let ends : ArePieces 64 (drop n text) (1 + length inside) = moved 64 (1 + length inside) (40 ∷ inside) (drop n text) (sym opens) call in
    after_front n text (piece_of front) (counted 64 (1 + length inside) (length (drop n text)) (drop n text) (omega (arith, ap length opens)) ends)

pub spelled_pieces : (at : ℕ) (text : List ℕ) (items : List ItemValue) → IsSpelling at text items → ArePieces 64 text (length text)
spelled_pieces at text items spelled = spells_pieces spelled.spells
