-- A source has no error exactly if it is accepted.
use Rattle.std.proofs.Common.{◌≡◌, ◌↔◌, ℕ, ◌<◌, ◌≤◌, Bool, true, false, cond, not, List, [], ◌∷◌, length, map, Result, Ok, Err, refl, sym, ap, subst, ◌∙◌, arith, true≢false}
use Rattle.std.specs.Prelude.{IfOk, IsTrue, nat_lt}
use Rattle.std.proofs.lemmas.Bool.{ltb-true, ltb-false}
use Rattle.std.proofs.lemmas.List.{length-map}
use Rattle.std.proofs.lemmas.List.Sorted.{length_permutation}
use Rattle.acparse.specs.Profile.{source_of, source_read}
use Rattle.ac_statement.specs.Reading.{◌>>=◌, quote_fault, quoted}
use Rattle.ac_statement.specs.declared.fault.ParseFault.{ParseFault}
use Rattle.lint_findings.specs.declared.finding.Finding.{Finding}
use Rattle.plan.specs.Weight.{heaviest, weight}
use Rattle.ac_calls.specs.Calls.{MacroCall, calls_among, calls_in, items_of, macro_call_of}
use Rattle.ac_tree.specs.Script.{Script, script_of}
use Rattle.ac_tree.specs.declared.tree.Stmt.{Stmt}
use Rattle.m4quote.specs.ItemValue.{ItemValue}
use Rattle.m4quote.specs.Scan.{outcome}
use Rattle.m4quote.specs.declared.fault.QuoteFault.{QuoteFault}
use Rattle.lint_errors.specs.declared.reading.Reading.{Reading}
use Rattle.lint_errors.specs.Errors.{Shown, finding_view, error_at, errors_read, AreRefused, AreErrors, IsAccepted, IsFaultError, IsFaultPlace}
use Rattle.lint_errors.specs.Readings.{AreStatements, IsRead, IsReading, IsSpelled, IsUnspelled}

map_none : (list : List Finding) → map finding_view list ≡ [] → list ≡ []
map_none [] h = refl
map_none (f ∷ list) h = let n = ap length h in absurd (omega (arith, n))

some_shown : (list : List Finding) (first : Shown) (more : List Shown) → map finding_view list ≡ first ∷ more → 0 < length list
some_shown [] first more h = let n = ap length h in absurd (omega (arith, n))
some_shown (f ∷ list) first more h = omega arith

none_some : (list : List Finding) → list ≡ [] → 0 < length list → ⊥
none_some list none some = let n = ap length none in omega (arith, n, some)

read_cases : (t : Bool) (s : Script) (list : List Finding) → nat_lt heaviest (weight s) ≡ t → map finding_view list ≡ cond t (error_at 0 ∷ []) [] → (list ≡ []) ↔ (weight s ≤ heaviest)
read_cases true s list e h =
    let long = ltb-true heaviest (weight s) e in (
      λ none. absurd (none_some list none (some_shown list (error_at 0) [] h)),
      λ le. absurd (omega (arith, long, le)),
    )
read_cases false s list e h = (λ none. ltb-false heaviest (weight s) e, λ le. map_none list h)

ok_same : (r : Result Script ParseFault) (a b : Script) → r ≡ Ok a → r ≡ Ok b → a ≡ b
ok_same r a b h g = cc

not_both : (r : Result Script ParseFault) (a : Script) (f : ParseFault) → r ≡ Ok a → r ≡ Err f → ⊥
not_both r a f h g = cc

refused_some : (text : List ℕ) (f : ParseFault) (list : List Finding) → AreRefused text f (calls_in text) list → 0 < length list
refused_some text f list r =
    let some = some_shown r.found _ _ r.exact in
    let same = length_permutation r.found list r.same in
    omega (arith, some, same)

by_reading : (text : List ℕ) (list : List Finding) (o : Result Script ParseFault) → source_of text ≡ o → AreErrors text o list → (list ≡ []) ↔ IsAccepted text
by_reading text list (Ok s) e errors =
    let cases = read_cases (nat_lt heaviest (weight s)) s list refl errors in (
      λ none. record { script = s; read = e; fits = cases.0 none },
      λ a. cases.1 (subst (λ x. weight x ≤ heaviest) (ok_same (source_of text) a.script s a.read e) a.fits),
    )
by_reading text list (Err f) e errors = (
  λ none. absurd (none_some list none (refused_some text f list errors)),
  λ a. absurd (not_both (source_of text) a.script f a.read e),
)

pub none_if_accepted : (text : List ℕ) (list : List Finding) → AreErrors text (source_of text) list → (list ≡ []) ↔ IsAccepted text
none_if_accepted text list errors = by_reading text list (source_of text) refl errors

-- what is said of a list is said of what a call returned
pub along : {T E : Type 0} (P Q : T → Type 0) → ((x : T) → P x → Q x) → (r : Result T E) → IfOk r P → IfOk r Q
along P Q f (Ok x) p = f x p
along P Q f (Err e) p = tt

-- ---- one reading

ok_not_err : (items : List ItemValue) (fault : ParseFault) → quoted (Ok items) ≡ Err fault → ⊥
ok_not_err items fault h = cc

source_spelled : (text : List ℕ) (items : List ItemValue) (source : Result (List Stmt) ParseFault) → outcome 0 text ≡ Ok items → AreStatements items source → IsRead text source
unfolding source_of
source_spelled text items (Ok statements) is read = subst (λ o. (quoted o >>= source_read) ≡ Ok (script_of statements)) (sym is) read
source_spelled text items (Err fault) is read = subst (λ o. (quoted o >>= source_read) ≡ Err fault) (sym is) read

calls_spelled : (text : List ℕ) (items : List ItemValue) (calls : List MacroCall) → outcome 0 text ≡ Ok items → calls ≡ calls_among items → calls ≡ calls_in text
unfolding calls_in
calls_spelled text items calls is found = subst (λ o. calls ≡ calls_among (items_of o)) (sym is) found

read_as : (text : List ℕ) (items : List ItemValue) (reading : Reading) → IsSpelled text items → AreStatements items reading.source → map macro_call_of reading.calls.items ≡ calls_among items → IsReading text reading
read_as text items reading is source calls =
    record { source = source_spelled text items reading.source is source; calls = calls_spelled text items (map macro_call_of reading.calls.items) is calls }

pub read_all : {E : Type 0} (text : List ℕ) (items : List ItemValue) (r : Result Reading E) → IsSpelled text items → IfOk r (λ x. AreStatements items x.source) → IfOk r (λ x. map macro_call_of x.calls.items ≡ calls_among items) → IfOk r (IsReading text)
read_all text items (Ok reading) is source calls = read_as text items reading is source calls
read_all text items (Err e) is source calls = tt

same_fault : (f : QuoteFault) (fault : ParseFault) → quoted {A = List ItemValue} (Err f) ≡ Err fault → quote_fault f ≡ fault
same_fault f fault h = cc

unspelled : (text : List ℕ) (o : Result (List ItemValue) QuoteFault) (fault : ParseFault) (reading : Reading) → outcome 0 text ≡ o → quoted o ≡ Err fault → reading.source ≡ Err fault → reading.calls.items ≡ [] → IsReading text reading
unfolding source_of calls_in
unspelled text (Ok items) fault reading is bad source calls = absurd (ok_not_err items fault bad)
unspelled text (Err f) fault reading is bad source calls =
    record {
      source = subst (IsRead text) (sym source) (subst (λ o. (quoted o >>= source_read) ≡ Err fault) (sym is) (ap Err (same_fault f fault bad)));
      calls = subst (λ cs. map macro_call_of cs ≡ calls_in text) (sym calls) (subst (λ o. [] ≡ calls_among (items_of o)) (sym is) refl);
    }

pub refused_as : (text : List ℕ) (fault : ParseFault) (reading : Reading) → IsUnspelled text fault → reading.source ≡ Err fault → reading.calls.items ≡ [] → IsReading text reading
refused_as text fault reading bad source calls = unspelled text (outcome 0 text) fault reading refl bad source calls

pub accepted_if_short : (text : List ℕ) (s : Script) (long : Bool) → source_of text ≡ Ok s → long ≡ nat_lt heaviest (weight s) → IsTrue (not long) ↔ IsAccepted text
accepted_if_short text s true read is =
    let long = ltb-true heaviest (weight s) (sym is) in (
      λ t. absurd (true≢false (sym t)),
      λ a. let fits = subst (λ x. weight x ≤ heaviest) (ok_same (source_of text) a.script s a.read read) a.fits in absurd (omega (arith, long, fits)),
    )
accepted_if_short text s false read is = (λ t. record { script = s; read = read; fits = ltb-false heaviest (weight s) (sym is) }, λ a. refl)

pub not_accepted : (text : List ℕ) (f : ParseFault) → source_of text ≡ Err f → IsTrue false ↔ IsAccepted text
not_accepted text f read = (λ t. absurd (true≢false (sym t)), λ a. absurd (not_both (source_of text) a.script f a.read read))

-- ---- one error

pub error_here : (text : List ℕ) (fault : ParseFault) (place : ℕ) (finding : Finding) → IsFaultPlace text fault place → finding_view finding ≡ error_at place → IsFaultError text fault finding
error_here text fault place finding is_place shown = record { place = place; is_place = is_place; shown = shown }
