-- The arguments with which a run is done again: as a function, and by the texts of records.
use Rattle.std.proofs.Common.{◌≡◌, ℕ, List, [], ◌∷◌, ◌++◌, Option, Some, None, Result, Ok, Err, codes, refl, sym, ap, subst, ◌∙◌}
use Rattle.std.specs.Prelude.{IfOk}
use Rattle.fallible.proofs.Binds.{ok_is, err_is}
use Rattle.status_record.specs.Reading.{record_in}
use Rattle.status_record.specs.RecordText.{IsFirstText, IsSecondText, IsRecordText, first, second}
use Rattle.status_record.specs.declared.fault.RecordFault.{RecordFault}
use Rattle.status_record.specs.declared.fault.RecordFault.TheVariants as faults
use Rattle.status_record.specs.declared.record.Record.{Record}
use Rattle.engine_frame.specs.Faults.{of_record, named, ◌>>=◌, GivesAgain}
use Rattle.engine_frame.specs.Rechecked.{HasArguments, HasNoArguments, args_again, rechecked}
use Rattle.engine_frame.specs.declared.fault.RemakeFault.{RemakeFault}
use Rattle.engine_frame.specs.declared.fault.RemakeFault.TheVariants.{NoArguments}

-- What is read is a record's text.
abbrev Reads : Type 0
Reads = (text : List ℕ) (r : Record) → record_in text ≡ Ok r → IsRecordText text r

-- A record's text is read.
abbrev IsRead : Type 0
IsRead = (text : List ℕ) (r : Record) → IsRecordText text r → record_in text ≡ Ok r

abbrev answer : List (List ℕ) → Result (List (List ℕ)) RemakeFault
answer args = Ok args

abbrev fails : RemakeFault → Result (List (List ℕ)) RemakeFault
fails f = Err f

some_is : (a b : List (List ℕ)) → Some a ≡ Some b → a ≡ b
some_is a b e = cc

-- The arguments of a record that is read.
found : (text : List ℕ) (r : Record) (args : List (List ℕ)) → IsRecordText text r → args_again r.args ≡ Ok args → HasArguments text args
found text r args (first h) e = let none : args_again r.args ≡ fails NoArguments = ap args_again h.has_none in absurd (cc)
found text r args (second h) e =
    record { recorded = r; is_text = h; are = sym (ok_is (h.args ++ codes "--no-create" ∷ []) args (sym (ap args_again h.has_args) ∙ e)) }

without : (text : List ℕ) (r : Record) → IsRecordText text r → args_again r.args ≡ Err NoArguments → HasNoArguments text
without text r (first h) e = record { recorded = r; is_text = h }
without text r (second h) e = let some : args_again r.args ≡ answer (h.args ++ codes "--no-create" ∷ []) = ap args_again h.has_args in absurd (cc)

other_fault : (f : RecordFault) → of_record f ≡ NoArguments → ⊥
other_fault faults.OutOfMemory e = cc
other_fault faults.BadMagic e = cc
other_fault (faults.BadLine n) e = cc
other_fault faults.Truncated e = cc
other_fault faults.UnknownVersion e = cc
other_fault (faults.DuplicateName n) e = cc

from_ok : Reads → (text : List ℕ) (args : List (List ℕ)) → rechecked text ≡ Ok args → HasArguments text args
unfolding rechecked
from_ok reads text args e = at (record_in text) refl e where
  at : (r : Result Record RecordFault) → record_in text ≡ r → (named of_record r >>= λ r. args_again r.args) ≡ Ok args → HasArguments text args
  at (Ok r) is h = found text r args (reads text r is) h
  at (Err f) is h = absurd (cc)

from_none : Reads → (text : List ℕ) → rechecked text ≡ Err NoArguments → HasNoArguments text
unfolding rechecked
from_none reads text e = at (record_in text) refl e where
  at : (r : Result Record RecordFault) → record_in text ≡ r → (named of_record r >>= λ r. args_again r.args) ≡ Err NoArguments → HasNoArguments text
  at (Ok r) is h = without text r (reads text r is) h
  at (Err f) is h = absurd (other_fault f (err_is {A = List (List ℕ)} (of_record f) NoArguments h))

to_args : IsRead → (text : List ℕ) (args : List (List ℕ)) → HasArguments text args → rechecked text ≡ Ok args
unfolding rechecked
to_args read text args h =
    ap (λ r. named of_record r >>= λ r. args_again r.args) (read text h.recorded (second h.is_text)) ∙ ap args_again h.is_text.has_args ∙ ap answer (sym h.are)

to_none : IsRead → (text : List ℕ) (r : Record) → IsFirstText text r → rechecked text ≡ Err NoArguments
unfolding rechecked
to_none read text r h = ap (λ r. named of_record r >>= λ r. args_again r.args) (read text r (first h)) ∙ ap args_again h.has_none

pub answer_sound : Reads → (text : List ℕ) (result : Result (List (List ℕ)) RemakeFault) → GivesAgain (λ all. all) result (rechecked text) → IfOk result (λ args. HasArguments text args)
answer_sound reads text (Ok args) h = from_ok reads text args h
answer_sound reads text (Err f) h = tt

pub answer_complete : IsRead → (text : List ℕ) (result : Result (List (List ℕ)) RemakeFault) → GivesAgain (λ all. all) result (rechecked text)
    → (args : List (List ℕ)) → HasArguments text args → GivesAgain (λ all. all) result (Ok args)
answer_complete read text result h args is = subst (GivesAgain (λ all. all) result) (to_args read text args is) h

pub none_sound : Reads → (text : List ℕ) (result : Result (List (List ℕ)) RemakeFault) → GivesAgain (λ all. all) result (rechecked text) → result ≡ Err NoArguments → HasNoArguments text
none_sound reads text result h e = from_none reads text (subst (λ r. GivesAgain (λ all. all) r (rechecked text)) e h)

pub none_complete : IsRead → (text : List ℕ) (result : Result (List (List ℕ)) RemakeFault) → GivesAgain (λ all. all) result (rechecked text)
    → (r : Record) → IsFirstText text r → GivesAgain (λ all. all) result (Err NoArguments)
none_complete read text result h r is = subst (GivesAgain (λ all. all) result) (to_none read text r is) h
