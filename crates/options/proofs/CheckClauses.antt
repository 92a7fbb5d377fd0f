-- The check of precious variables, in the words of the rules: for the clauses of the public calls.
use Rattle.std.proofs.Common.{◌≡◌, ℕ, List, map, Result, Ok, Err, fold, refl, ap, subst, ◌∙◌}
use Rattle.std.specs.Prelude.{IfOk, IfErr}
use Rattle.cachefile.specs.Cache.{vars_after}
use Rattle.cachefile.specs.Line.{Setting}
use Rattle.deftable.specs.declared.note.Note.{Note}
use Rattle.options.proofs.Checks.{Found, found, all_unchanged, names_stay, values_after, had_before, marks_stay, notes_found, all_given, FirstFault, first_fault, fault_found}
use Rattle.options.specs.Opening.{with_variable}
use Rattle.options.specs.Reading.{◌>>=◌, Gives, Fails}
use Rattle.options.specs.Precious.{blanks_note, AreUnchanged, IsChecked, IsPreciousFault, restored_from, checked}
use Rattle.options.specs.declared.fault.PreciousFault.{PreciousFault}
use Rattle.options.specs.declared.fault.PreciousFault.TheVariants.{OutOfMemory}

abbrev Entries : Type 0
Entries = List (List ℕ × List ℕ)

module _ (precious : List (List ℕ)) (vars : Entries) (cache : List Setting) where
  abbrev marked : Entries
  marked = vars_after cache vars

  abbrev made : Entries → Result (Entries × List Note) PreciousFault
  made changes = Ok (fold with_variable vars changes, map (λ change. blanks_note change.0) changes)

  checked_by : (changes : Entries) → Found precious vars marked precious changes → IsChecked precious vars cache (fold with_variable vars changes) (map (λ change. blanks_note change.0) changes)
  checked_by changes f = record {
    unchanged = all_unchanged precious vars marked f;
    names = names_stay precious vars marked f vars refl;
    values = λ name. values_after precious vars marked f vars name;
    had = had_before precious vars marked f;
    marks = marks_stay precious vars marked f;
    notes_are = notes_found precious vars marked f;
  }

  is_checked : (after : Entries) (notes : List Note) → checked precious vars cache ≡ Ok (after, notes) → IsChecked precious vars cache after notes
  unfolding checked
  is_checked after notes e = at (restored_from precious 1 vars marked precious) refl e where
    at : (r : Result Entries PreciousFault) → restored_from precious 1 vars marked precious ≡ r → (r >>= made) ≡ Ok (after, notes) → IsChecked precious vars cache after notes
    at (Ok changes) is e =
        let same : ◌≡◌ {A = Entries × List Note} (fold with_variable vars changes, map (λ change. blanks_note change.0) changes) (after, notes) = cc in
        subst (λ (p : Entries × List Note). IsChecked precious vars cache p.0 p.1) same (checked_by changes (found precious vars marked 1 precious changes is))
    at (Err f) is e = absurd (cc)

  is_fault : (fault : PreciousFault) → checked precious vars cache ≡ Err fault → IsPreciousFault precious vars cache fault
  unfolding checked
  is_fault fault e = at (restored_from precious 1 vars marked precious) refl e where
    at : (r : Result Entries PreciousFault) → restored_from precious 1 vars marked precious ≡ r → (r >>= made) ≡ Err fault → IsPreciousFault precious vars cache fault
    at (Ok changes) is e = absurd (cc)
    at (Err f) is e =
        let same : ◌≡◌ {A = Result Entries PreciousFault} (Err f) (Err fault) = cc in
        let first : FirstFault precious vars marked 1 precious fault = first_fault precious vars marked 1 precious fault (is ∙ same) in
        record { before = first.before; name = first.name; more = first.more; are = first.are; unchanged = first.unchanged; has = first.has }

  fault_is : (fault : PreciousFault) → IsPreciousFault precious vars cache fault → checked precious vars cache ≡ Err fault
  unfolding checked
  fault_is fault h =
      ap (λ r. r >>= made) (ap (restored_from precious 1 vars marked) h.are ∙ fault_found precious vars marked 1 h.before h.name h.more fault h.unchanged h.has)

  no_fault : (fault : PreciousFault) → AreUnchanged precious vars cache → checked precious vars cache ≡ Err fault → ⊥
  unfolding checked
  no_fault fault h e = let all = all_given precious vars marked 1 precious h in let is = ap (λ r. r >>= made) all.1 in absurd (cc)

  pub sound : (result : Result (List Note) PreciousFault) (after : Entries) → Gives (λ notes. (after, notes)) result (checked precious vars cache)
      → IfOk result (λ notes. IsChecked precious vars cache after notes)
  sound (Ok notes) after e = is_checked after notes e
  sound (Err fault) after e = tt

  pub complete : (result : Result (List Note) PreciousFault) (after : Entries) → Gives (λ notes. (after, notes)) result (checked precious vars cache)
      → AreUnchanged precious vars cache → IfErr result (λ fault. fault ≡ OutOfMemory)
  complete (Ok notes) after e h = tt
  complete (Err fault) after e h = at fault e where
    at : (fault : PreciousFault) → Fails fault (checked precious vars cache) → fault ≡ OutOfMemory
    at OutOfMemory e = refl
    at fault e = absurd (no_fault fault h e)

  pub error_sound : (result : Result (List Note) PreciousFault) (after : Entries) → Gives (λ notes. (after, notes)) result (checked precious vars cache)
      → IfErr result (λ fault. (fault ≡ OutOfMemory → ⊥) → IsPreciousFault precious vars cache fault)
  error_sound (Ok notes) after e = tt
  error_sound (Err fault) after e = at fault e where
    at : (fault : PreciousFault) → Fails fault (checked precious vars cache) → (fault ≡ OutOfMemory → ⊥) → IsPreciousFault precious vars cache fault
    at OutOfMemory e other = absurd (other refl)
    at fault e other = is_fault fault e

  same_fault : (fault given : PreciousFault) → Fails {A = Entries × List Note} fault (Err given) → Fails {A = List Note} fault (Err given)
  same_fault OutOfMemory given e = tt
  same_fault fault given e = let same : given ≡ fault = cc in ap (λ f. Err f) same

  pub error_complete : (result : Result (List Note) PreciousFault) (after : Entries) → Gives (λ notes. (after, notes)) result (checked precious vars cache)
      → (fault : PreciousFault) → IsPreciousFault precious vars cache fault → Gives {B = List Note} (λ notes. notes) result (Err fault)
  error_complete (Ok notes) after e fault h = let is = fault_is fault h in absurd (cc)
  error_complete (Err other) after e fault h = same_fault other fault (subst (Fails other) (fault_is fault h) e)
