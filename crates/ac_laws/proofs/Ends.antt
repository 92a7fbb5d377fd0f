-- Where a call ends.
use Rattle.std.proofs.Common.{◌≡◌, ℕ, suc, ◌+◌, ◌-◌, ◌<◌, ◌≤◌, false, eqb, eq-eqb, ne_eqb, inl, inr, List, [], ◌∷◌, length, get_or, drop, sym, ap, subst, ◌∙◌, arith}
use Rattle.std.proofs.lemmas.Bool.{eqb-true, eqb-false}
use Rattle.std.proofs.lemmas.List.{length-drop, length-take-le}
use Rattle.m4quote.specs.ItemValue.{Span}
use Rattle.m4quote.specs.Spelling.{AreArguments, last, more, argument_of}
use Rattle.m4quote.specs.Text.{blank_len}
use Rattle.ac_statement.specs.Stand.{call_reaches}
use Rattle.ac_statement.specs.Texts.{arg_at}
use Rattle.ac_statement.proofs.Runs.{either}

eqb_same : (a b c d : ℕ) → (a ≡ b → c ≡ d) → (c ≡ d → a ≡ b) → eqb a b ≡ eqb c d
eqb_same a b c d f g =
    elim (either (eqb c d)) [
      | inl is ↦ (eq-eqb a b (g (eqb-true c d is)) ∙ sym is)
      | inr other ↦ (ne_eqb a b (λ h. eqb-false c d other (f h)) ∙ sym other)
    ]

-- The last argument.
abbrev pub last_of : List Span → Span
last_of args = arg_at args (length args - 1)

last_more : (a b : Span) (args : List Span) → last_of (a ∷ b ∷ args) ≡ last_of (b ∷ args)
last_more a b args =
    ap (λ k. get_or (a ∷ b ∷ args) k (record { text = []; at = 0 }))
    (let e : suc (suc (length args)) - 1 ≡ suc (length args) = omega arith in e)
    ∙ ap (λ k. get_or (b ∷ args) k (record { text = []; at = 0 }))
    (let e : length args ≡ suc (length args) - 1 = omega arith in e)

-- An argument takes n bytes after its blanks, and one more ends it.
argument_length : (at n c : ℕ) (text after : List ℕ) → drop (blank_len text + n) text ≡ c ∷ after
    → length (argument_of at text n).text ≡ n
argument_length at n c text after ends =
    let len : length text - (blank_len text + n) ≡ suc (length after) =
    sym (length-drop (blank_len text + n) text) ∙ ap length ends in
    length-take-le n (drop (blank_len text) text)
    (omega (arith, len, length-drop (blank_len text) text))

abbrev ends_at : Span → ℕ → Type 0
ends_at a end = a.at + length a.text + 1 ≡ end

-- There is an argument, and the call ends right after the last one.
pub last_ends : {at : ℕ} {text : List ℕ} {args : List Span} {n : ℕ} → AreArguments at text args n
    → (0 < length args) × ends_at (last_of args) (at + n)
last_ends (last {at} {n} {text} {after} inside ends) =
    let len = argument_length at n 41 text after ends in
    (omega arith, omega (arith, len))
last_ends (more {at} {n} {m} {text} {after} {args} inside ends later) =
    by args (last_ends later) where
      by : (args : List Span)
          → (0 < length args) × ends_at (last_of args) (at + (blank_len text + n + 1) + m)
          → (0 < suc (length args)) × ends_at (last_of (argument_of at text n ∷ args))
          (at + (blank_len text + n + 1 + m))
      by [] h = absurd (let lt : 0 < 0 = h.0 in omega (arith, lt))
      by (b ∷ bs) h =
          let e = h.1 in (
            omega arith,
            subst (λ a. ends_at a (at + (blank_len text + n + 1 + m)))
                (sym (last_more (argument_of at text n) b bs)) (omega (arith, e)),
          )

-- A call without arguments ends with its name.
pub name_reaches : (name : List ℕ) (at n to : ℕ) → length name ≡ n → at + n ≤ to
    → call_reaches name [] at to ≡ eqb to (at + n)
name_reaches name at n to len le =
    eqb_same (to - at) (length name) to (at + n) (λ h. omega (arith, h, len, le))
    (λ h. omega (arith, h, len))

pub arguments_reach : (name : List ℕ) (args : List Span) (at end to : ℕ) → 0 < length args
    → ends_at (last_of args) end → end ≤ to → call_reaches name args at to ≡ eqb to end
arguments_reach name args at end to some ends le =
    let a = last_of args in
    let not_none : eqb (length args) 0 ≡ false =
    ne_eqb (length args) 0 (λ h. omega (arith, h, some)) in
    rw not_none
    (eqb_same (to - a.at) (length a.text + 1) to end (λ h. omega (arith, h, ends, le))
    (λ h. omega (arith, h, ends)))
