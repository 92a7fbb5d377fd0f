-- A limit of as many brackets as there are bytes is never reached.
use Rattle.std.proofs.Common.{◌≡◌, ℕ, zero, suc, ◌+◌, ◌<◌, ◌≤◌, ◌⊎◌, inl, inr, List, ◌∷◌, ◌++◌, length, refl, subst, arith}
use Rattle.std.proofs.lemmas.List.{length-append}
use Rattle.m4quote.specs.declared.fault.QuoteFault.{QuoteFault}
use Rattle.m4quote.specs.declared.fault.QuoteFault.TheVariants.{UnclosedQuote}
use Rattle.m4quote.specs.declared.front.FrontKind.{FrontKind}
use Rattle.m4quote.specs.Spelling.{Balanced, empty, byte, group, IsFront, quoted, comment, dropped, name, other_word, other_byte}
use Rattle.m4quote.specs.Faults.{QuoteBreaks, stays_open, one_too_many, in_quotes, FrontBreaks, stray, no_room, quote_breaks}
use Rattle.m4quote.specs.Used.{UnquoteBreaks, stray_close, unclosed}

-- ---- balanced texts

pub Balanced-more : {room : ℕ} {text : List ℕ} → Balanced room text → (more : ℕ) → room ≤ more → Balanced more text
Balanced-more empty more h = empty
Balanced-more (byte opens closes rest) more h = byte opens closes (Balanced-more rest more h)
Balanced-more (group within rest) zero h = absurd (omega arith)
Balanced-more (group within rest) (suc more) h = group (Balanced-more within more (omega arith)) (Balanced-more rest (suc more) h)

Balanced-tight : {room : ℕ} {text : List ℕ} → Balanced room text → Balanced (length text) text
Balanced-tight empty = empty
Balanced-tight (byte {room} {b} {text} opens closes rest) = byte opens closes (Balanced-more (Balanced-tight rest) (suc (length text)) (omega arith))
Balanced-tight (group {room} {inside} {text} within rest) =
    let len = length-append inside (93 ∷ text) in
    group (Balanced-more (Balanced-tight within) (length (inside ++ 93 ∷ text)) (omega arith)) (Balanced-more (Balanced-tight rest) (suc (length (inside ++ 93 ∷ text))) (omega arith))

pub roomy : {room : ℕ} {text : List ℕ} {kind : FrontKind} {n : ℕ} → IsFront room text kind n → IsFront (length text) text kind n
roomy (quoted {room} {inside} balanced rest) =
    let len = length-append inside (93 ∷ rest) in
    quoted (Balanced-more (Balanced-tight balanced) (length (inside ++ 93 ∷ rest)) (omega arith)) rest
roomy comment = comment
roomy (dropped dnl) = dropped dnl
roomy (name given) = name given
roomy (other_word some no_dnl no_name) = other_word some no_dnl no_name
roomy (other_byte other) = other_byte other

-- ---- quotes that stay open

pub open-more : {at room : ℕ} {text : List ℕ} {f : QuoteFault} → QuoteBreaks at room text f → (place : ℕ) → f ≡ UnclosedQuote place → (more : ℕ) → room ≤ more → QuoteBreaks at more text f
open-more (stays_open balanced) place is more h = stays_open (Balanced-more balanced more h)
open-more (one_too_many balanced rest) place is more h = absurd cc
open-more (in_quotes balanced later) place is zero h = absurd (omega arith)
open-more (in_quotes balanced later) place is (suc more) h = in_quotes (Balanced-more balanced (suc more) h) (open-more later place is more (omega arith))

open-tight : {at room : ℕ} {text : List ℕ} {f : QuoteFault} → QuoteBreaks at room text f → (place : ℕ) → f ≡ UnclosedQuote place → QuoteBreaks at (length text) text f
open-tight (stays_open balanced) place is = stays_open (Balanced-tight balanced)
open-tight (one_too_many balanced rest) place is = absurd cc
open-tight (in_quotes {at} {room} {inside} {rest} {f} balanced later) place is =
    let len = length-append inside (91 ∷ rest) in
    let after : QuoteBreaks at (length inside + length rest) rest f = open-more (open-tight later place is) place is (length inside + length rest) (omega arith) in
    let before : Balanced (suc (length inside + length rest)) inside = Balanced-more (Balanced-tight balanced) (suc (length inside + length rest)) (omega arith) in
    subst (λ r. QuoteBreaks at r (inside ++ 91 ∷ rest) f) (let e : suc (length inside + length rest) ≡ length (inside ++ 91 ∷ rest) = omega arith in e) (in_quotes before after)

pub open-front : {at room : ℕ} {rest : List ℕ} → QuoteBreaks at room rest (UnclosedQuote at) → FrontBreaks at (length (91 ∷ rest)) (91 ∷ rest) (UnclosedQuote at)
open-front {at} {room} {rest} breaks = quote_breaks (open-tight breaks at refl)

quote_kind : {at room : ℕ} {text : List ℕ} {f : QuoteFault} → QuoteBreaks at room text f → (f ≡ UnclosedQuote at) ⊎ (room < length text)
quote_kind (stays_open balanced) = inl refl
quote_kind (one_too_many {at} {inside} balanced rest) = inr (omega (arith, length-append inside (91 ∷ rest)))
quote_kind (in_quotes {at} {room} {inside} {rest} {f} balanced later) =
    elim (quote_kind later) [
      | inl is ↦ inl is
      | inr less ↦ inr (omega (arith, less, length-append inside (91 ∷ rest)))
    ]

-- with this limit, the error of a front is a stray bracket or an open quote
pub front-unquote : {at room : ℕ} {text : List ℕ} {f : QuoteFault} → FrontBreaks at room text f → room ≡ length text → UnquoteBreaks at text f
front-unquote stray e = stray_close
front-unquote (no_room {at} {rest}) e = absurd (omega (arith, e))
front-unquote (quote_breaks {at} {room} {rest} {f} breaks) e =
    elim (quote_kind breaks) [
      | inl is ↦
          let here : QuoteBreaks at room rest (UnclosedQuote at) = subst (QuoteBreaks at room rest) is breaks in
          subst (UnquoteBreaks at (91 ∷ rest)) (let s : UnclosedQuote at ≡ f = cc in s) (unclosed here)
      | inr less ↦ absurd (omega (arith, e, less))
    ]
