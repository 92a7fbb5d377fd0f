-- The errors that can occur.
use Rattle.std.proofs.Common.{◌≡◌, ℕ, ◌<◌, Bool, List, length, inl, inr, subst, sym, arith}
use Rattle.m4quote.specs.declared.fault.QuoteFault.{QuoteFault}
use Rattle.m4quote.specs.declared.fault.QuoteFault.TheVariants.{OutOfMemory}
use Rattle.m4quote.specs.Faults.{QuoteBreaks, stays_open, one_too_many, in_quotes, FrontBreaks, stray, no_room, quote_breaks, InsideBreaks, no_close, piece_breaks, paren_too_many, in_parens, ArgumentsBreak, argument_breaks, later_argument, Breaks, front_breaks, arguments_break, after_front, after_call, IsFirstFault, too_large, breaks, breaks_before_nul, nul, nul_in_open, IsBracketFault}
use Rattle.m4quote.specs.Used.{Unquotes, nothing, front, UnquoteBreaks, stray_close, unclosed, following, UseBreaks, outer, inner_close}
use Rattle.m4quote.proofs.Insides.{front_fits}
use Rattle.m4quote.proofs.UsedText.{IsBracketFaultAt, break_place}

-- ---- no error of a text is out of memory

quote_no_memory : {at room : ℕ} {text : List ℕ} {f : QuoteFault} → QuoteBreaks at room text f → f ≡ OutOfMemory → ⊥
quote_no_memory (stays_open balanced) e = cc
quote_no_memory (one_too_many balanced rest) e = cc
quote_no_memory (in_quotes balanced later) e = quote_no_memory later e

front_no_memory : {at room : ℕ} {text : List ℕ} {f : QuoteFault} → FrontBreaks at room text f → f ≡ OutOfMemory → ⊥
front_no_memory stray e = cc
front_no_memory no_room e = cc
front_no_memory (quote_breaks broken) e = quote_no_memory broken e

inside_no_memory : {opened at room : ℕ} {commas : Bool} {text : List ℕ} {f : QuoteFault} → InsideBreaks opened at room commas text f → f ≡ OutOfMemory → ⊥
inside_no_memory (no_close inside) e = cc
inside_no_memory (piece_breaks inside broken) e = front_no_memory broken e
inside_no_memory (paren_too_many inside opens) e = cc
inside_no_memory (in_parens inside opens later) e = inside_no_memory later e

arguments_no_memory : {opened at : ℕ} {text : List ℕ} {f : QuoteFault} → ArgumentsBreak opened at text f → f ≡ OutOfMemory → ⊥
arguments_no_memory (argument_breaks broken) e = inside_no_memory broken e
arguments_no_memory (later_argument inside ends later) e = arguments_no_memory later e

items_no_memory : {at : ℕ} {text : List ℕ} {f : QuoteFault} → Breaks at text f → f ≡ OutOfMemory → ⊥
items_no_memory (front_breaks broken) e = front_no_memory broken e
items_no_memory (arguments_break named opens broken) e = arguments_no_memory broken e
items_no_memory (after_front whole is later) e = items_no_memory later e
items_no_memory (after_call named opens given later) e = items_no_memory later e

pub first_fault-no_memory : {at : ℕ} {text : List ℕ} {f : QuoteFault} → IsFirstFault at text f → f ≡ OutOfMemory → ⊥
first_fault-no_memory (too_large large) e = cc
first_fault-no_memory (breaks short no_nul broken) e = items_no_memory broken e
first_fault-no_memory (breaks_before_nul short at_nul broken closed) e = items_no_memory broken e
first_fault-no_memory (nul short at_nul good) e = cc
first_fault-no_memory (nul_in_open short at_nul broken opened) e = cc

-- ---- removing quotes: an unclosed quote or a stray bracket, in the text

bracket_fault : (text : List ℕ) (f : QuoteFault) (p : ℕ) → IsBracketFaultAt p f → p < length text → IsBracketFault text f
bracket_fault text f p (inl is) within = subst (IsBracketFault text) (sym is) within
bracket_fault text f p (inr is) within = subst (IsBracketFault text) (sym is) within

pub unquote_breaks-kind : {text : List ℕ} {f : QuoteFault} → UnquoteBreaks 0 text f → IsBracketFault text f
unquote_breaks-kind {text} {f} broken = let h = break_place broken in bracket_fault text f h.0 h.1 (omega (arith, h.2))

pub unquote_breaks-no_memory : {at : ℕ} {text : List ℕ} {f : QuoteFault} → UnquoteBreaks at text f → f ≡ OutOfMemory → ⊥
unquote_breaks-no_memory stray_close e = cc
unquote_breaks-no_memory (unclosed broken) e = cc
unquote_breaks-no_memory (following whole later) e = unquote_breaks-no_memory later e

-- nothing remains of the empty text
some_left : {text out : List ℕ} → Unquotes text out → 0 < length out → 0 < length text
some_left nothing some = some
some_left (front whole later) some = let fits = front_fits whole in omega (arith, fits.0, fits.1)

pub use_breaks-kind : {arg : List ℕ} {f : QuoteFault} → UseBreaks arg f → IsBracketFault arg f
use_breaks-kind (outer broken) = unquote_breaks-kind broken
use_breaks-kind (inner_close once broken) = some_left once (let h = break_place broken in omega (arith, h.2))

pub use_breaks-no_memory : {arg : List ℕ} {f : QuoteFault} → UseBreaks arg f → f ≡ OutOfMemory → ⊥
use_breaks-no_memory (outer broken) e = unquote_breaks-no_memory broken e
use_breaks-no_memory (inner_close once broken) e = cc
