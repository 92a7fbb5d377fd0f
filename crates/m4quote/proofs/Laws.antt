-- Laws of the definitions, for the crates above: the functions and the relations of a text agree, a text has one
-- reading, and what is read consists of parts of the text.
use Rattle.std.proofs.Common.{◌≡◌, ◌≢◌, ◌↔◌, ℕ, ◌⊎◌, inl, inr, List, Result, Ok, Err, refl, sym, ◌∙◌, arith}
use Rattle.m4quote.specs.declared.fault.QuoteFault.{QuoteFault}
use Rattle.m4quote.specs.declared.fault.QuoteFault.TheVariants.{UnclosedQuote, StrayClose, OutOfMemory}
use Rattle.m4quote.specs.ItemValue.{ItemValue}
use Rattle.m4quote.specs.Spelling.{IsSpelling}
use Rattle.m4quote.specs.Parts.{ArePartsOf}
use Rattle.m4quote.specs.Faults.{IsFirstFault, IsBracketFault}
use Rattle.m4quote.specs.Used.{Unquotes, IsUsed, UseBreaks, IsBareValue, UnquoteBreaks}
use Rattle.m4quote.specs.Scan.{outcome, used, bare_value_of}
use Rattle.fallible.proofs.Binds.{ok_is, err_is, failed}
use Rattle.m4quote.proofs.Whole.{outcome-spelling, spelling-outcome, outcome-fault, fault-outcome}
use Rattle.m4quote.proofs.UsedText.{used-is, is-used, used-breaks, breaks-used, bare_value_of-is, is-bare_value_of, bare_value_of-breaks, breaks-bare_value_of}
use Rattle.m4quote.proofs.Closed.{second_breaks}
use Rattle.m4quote.proofs.PartsOf.{items-parts}
use Rattle.m4quote.proofs.FaultKinds.{first_fault-no_memory, use_breaks-kind, use_breaks-no_memory, unquote_breaks-kind, unquote_breaks-no_memory}

-- ---- items

-- the function gives these items if and only if the text spells them
pub outcome_is_spelling : (at : ℕ) (text : List ℕ) (items : List ItemValue) → (outcome at text ≡ Ok items) ↔ IsSpelling at text items
outcome_is_spelling at text items = (spelling-outcome at text items, outcome-spelling at text items)

-- the function gives this error if and only if it is the first one
pub outcome_is_fault : (at : ℕ) (text : List ℕ) (f : QuoteFault) → (outcome at text ≡ Err f) ↔ IsFirstFault at text f
outcome_is_fault at text f = (fault-outcome at text f, λ h. outcome-fault h)

-- a text spells at most one list
pub one_list : (at : ℕ) (text : List ℕ) (a b : List ItemValue) → IsSpelling at text a → IsSpelling at text b → a ≡ b
one_list at text a b h k = ok_is a b (sym (outcome-spelling at text a h) ∙ outcome-spelling at text b k)

-- a text has at most one first error
pub one_fault : (at : ℕ) (text : List ℕ) (f g : QuoteFault) → IsFirstFault at text f → IsFirstFault at text g → f ≡ g
one_fault at text f g h k = err_is f g (sym (outcome-fault h) ∙ outcome-fault k)

-- a text doesn't have both
pub never_both : (at : ℕ) (text : List ℕ) (items : List ItemValue) (f : QuoteFault) → IsSpelling at text items → IsFirstFault at text f → ⊥
never_both at text items f h k = failed (sym (outcome-fault k) ∙ outcome-spelling at text items h)

-- a text has one of the two
pub one_of_both : (at : ℕ) (text : List ℕ) → ((items : List ItemValue) × IsSpelling at text items) ⊎ ((f : QuoteFault) × IsFirstFault at text f)
one_of_both at text = by_outcome (outcome at text) refl where
  by_outcome : (r : Result (List ItemValue) QuoteFault) → outcome at text ≡ r → ((items : List ItemValue) × IsSpelling at text items) ⊎ ((f : QuoteFault) × IsFirstFault at text f)
  by_outcome (Ok items) e = inl (items, spelling-outcome at text items e)
  by_outcome (Err f) e = inr (f, fault-outcome at text f e)

-- what is spelled is in the text
pub spelling_parts : (at : ℕ) (text : List ℕ) (items : List ItemValue) → IsSpelling at text items → ArePartsOf at text items
spelling_parts at text items h = items-parts at text h.spells 0 (omega arith) refl (omega arith)

-- no error of a text is out of memory
pub fault_is_not_memory : (at : ℕ) (text : List ℕ) (f : QuoteFault) → IsFirstFault at text f → f ≢ OutOfMemory
fault_is_not_memory at text f h = first_fault-no_memory h

-- ---- used text

-- the function gives this text if and only if it is the used one
pub used_is_used : (arg out : List ℕ) → (used arg ≡ Ok out) ↔ IsUsed arg out
used_is_used arg out = (is-used arg out, used-is arg out)

-- the function gives this error if and only if it is the reason why there is no used text
pub used_is_fault : (arg : List ℕ) (f : QuoteFault) → (used arg ≡ Err f) ↔ UseBreaks arg f
used_is_fault arg f = (breaks-used arg f, λ h. used-breaks h)

-- the errors that can occur
pub use_fault_kind : (arg : List ℕ) (f : QuoteFault) → UseBreaks arg f → IsBracketFault arg f
use_fault_kind arg f h = use_breaks-kind h

-- the first removal of quotes leaves no quote open
pub second_closes : (arg once : List ℕ) (at place : ℕ) → Unquotes arg once → UnquoteBreaks at once (UnclosedQuote place) → ⊥
second_closes arg once at place first breaks = let h = second_breaks first breaks in let e : UnclosedQuote place ≡ StrayClose h.0 = h.1 in cc

-- none of the errors is out of memory
pub use_fault_is_not_memory : (arg : List ℕ) (f : QuoteFault) → UseBreaks arg f → f ≢ OutOfMemory
use_fault_is_not_memory arg f h = use_breaks-no_memory h

-- ---- the value of bare text

-- the function gives this text if and only if it is the value
pub bare_value_is_value : (text out : List ℕ) → (bare_value_of text ≡ Ok out) ↔ IsBareValue text out
bare_value_is_value text out = (is-bare_value_of text out, bare_value_of-is text out)

-- the function gives this error if and only if it is the reason why there is no value
pub bare_value_is_fault : (text : List ℕ) (f : QuoteFault) → (bare_value_of text ≡ Err f) ↔ UnquoteBreaks 0 text f
bare_value_is_fault text f = (breaks-bare_value_of text f, λ h. bare_value_of-breaks h)

-- the errors that can occur
pub bare_fault_kind : (text : List ℕ) (f : QuoteFault) → UnquoteBreaks 0 text f → IsBracketFault text f
bare_fault_kind text f h = unquote_breaks-kind h

-- none of the errors is out of memory
pub bare_fault_is_not_memory : (text : List ℕ) (f : QuoteFault) → UnquoteBreaks 0 text f → f ≢ OutOfMemory
bare_fault_is_not_memory text f h = unquote_breaks-no_memory h
