-- What follows a call, as items and as signs.
use Rattle.std.proofs.Common.{◌≡◌, ℕ, ◌+◌, ◌<◌, ◌≤◌, Bool, true, ◌||◌, eqb, eq-eqb, ne_eqb, inl, inr, List, [], ◌∷◌, ◌++◌, length, take, refl, sym, ap, ◌∙◌, arith}
use Rattle.std.specs.Prelude.{not}
use Rattle.std.proofs.lemmas.List.{length-take-le}
use Rattle.m4quote.specs.ItemValue.{Span, ItemValue, call, bare, bare_before}
use Rattle.m4quote.specs.Spelling.{Spells, nothing, bare_text, dropped_line, bare_name, with_arguments}
use Rattle.m4quote.proofs.Insides.{front_fits}
use Rattle.m4quote.proofs.ItemsLoop.{StartsFrom, starts}
use Rattle.m4quote.proofs.Spelled.{reading-spelled}
use Rattle.ac_statement.specs.Stand.{begins_line, call_reaches, is_free_after}
use Rattle.ac_statement.specs.Texts.{is_all_blank}
use Rattle.ac_statement.proofs.Runs.{either}
use Rattle.ac_laws.specs.Signs.{signs_of}
use Rattle.ac_laws.proofs.Opens.{ends_after, opens, signs_open, bytes_open, opens-append, text_after}

-- What follows an offset leaves a call before it free.
abbrev pub after_at : ℕ → List ItemValue → Bool
after_at at [] = true
after_at at (call name args to ∷ items) = true
after_at at (bare text to ∷ items) = not (eqb to at) || is_all_blank text || begins_line text

-- No item begins before the text.
pub spelled_starts : {at : ℕ} {text : List ℕ} {items : List ItemValue} → Spells at text items
    → StartsFrom at items
spelled_starts {at} {text} {items} s = starts 0 at text items (reading-spelled s)

bare_after : (at : ℕ) (text : List ℕ) (items : List ItemValue) → 0 < length text
    → opens ends_after (after_at (at + length text) items) text ≡ after_at at
    (bare_before at text items)
bare_after at [] items some = absurd (omega (arith, some))
bare_after at (b ∷ bs) [] some = rw (eq-eqb at at refl) (sym (text_after (b ∷ bs)))
bare_after at (b ∷ bs) (call name args to ∷ items) some =
    rw (eq-eqb at at refl) (sym (text_after (b ∷ bs)))
bare_after at (b ∷ bs) (bare text to ∷ items) some =
    elim (either (eqb to (at + length (b ∷ bs)))) [
      | inl touch ↦
          (let here : after_at (at + length (b ∷ bs))
          (bare text to ∷ items) ≡ opens ends_after true text = rw touch (text_after text) in
          ap (λ x. opens ends_after x (b ∷ bs)) here
          ∙ rw (touch, eq-eqb at at refl)
          (sym (opens-append ends_after true (b ∷ bs) text) ∙ sym (text_after ((b ∷ bs) ++ text))))
      | inr other ↦
          (let here : after_at (at + length (b ∷ bs))
          (bare text to ∷ items) ≡ true = rw other refl in
          ap (λ x. opens ends_after x (b ∷ bs)) here
          ∙ rw (other, eq-eqb at at refl) (sym (text_after (b ∷ bs))))
    ]

line_after : (at to : ℕ) (items : List ItemValue) → at < to → StartsFrom to items
    → true ≡ after_at at items
line_after at to [] lt s = refl
line_after at to (call name args place ∷ items) lt s = refl
line_after at to (bare text place ∷ items) lt s =
    rw (ne_eqb place at (λ e. omega (arith, e, s, lt))) refl

pub after_signs : {at : ℕ} {text : List ℕ} {items : List ItemValue} → (s : Spells at text items)
    → signs_open ends_after (signs_of s) ≡ after_at at items
after_signs nothing = refl
after_signs (bare_text {at} {n} {kind} {text} {items} front is_bare rest) =
    let fits = front_fits front in
    let len : length (take n text) ≡ n = length-take-le n text fits.1 in
    bytes_open ends_after (take n text) (signs_of rest)
    ∙ ap (λ x. opens ends_after x (take n text))
    (after_signs rest ∙ ap (λ k. after_at (at + k) items) (sym len))
    ∙ bare_after at (take n text) items (omega (arith, len, fits.0))
after_signs (dropped_line {at} {n} {text} {items} front rest) =
    line_after at (at + n) items (omega (arith, (front_fits front).0)) (spelled_starts rest)
after_signs (bare_name {at} {n} {text} {items} front alone rest) = refl
after_signs (with_arguments {at} {n} {m} {text} {inside} {args} {items} front paren given rest) =
    refl

-- What follows a call that ends here.
pub free_after : (name : List ℕ) (args : List Span) (at end : ℕ) (items : List ItemValue)
    → ((to : ℕ) → end ≤ to → call_reaches name args at to ≡ eqb to end) → StartsFrom end items
    → is_free_after name args at items ≡ after_at end items
free_after name args at end [] reach s = refl
free_after name args at end (call name' args' to ∷ items) reach s = refl
free_after name args at end (bare text to ∷ items) reach s =
    ap (λ x. not x || is_all_blank text || begins_line text) (reach to s)
