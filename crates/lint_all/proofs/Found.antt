-- The errors that a first reading finds are errors of the source, and stay among those that are listed.
use Rattle.std.proofs.Common.{◌≡◌, ◌↔◌, ℕ, Bool, true, false, cond, List, [], ◌∷◌, length, map, Result, Ok, Err, refl, sym, ap, ◌∙◌, arith}
use Rattle.std.specs.Prelude.{All, IfOk, nat_lt, ◌==◌}
use Rattle.std.specs.List.{Contains, flat_map}
use Rattle.std.proofs.lemmas.Bool.{false≢true}
use Rattle.std.proofs.lemmas.List.Elements.{All-nil, All-cons, All-head, All-tail, All-same, All-append}
use Rattle.std.proofs.lemmas.List.Sorted.{All-permutation}
use Rattle.acparse.specs.Profile.{source_of}
use Rattle.ac_statement.specs.declared.fault.ParseFault.{ParseFault}
use Rattle.lint_findings.specs.declared.finding.Finding.{Finding}
use Rattle.lint_findings.specs.declared.finding.Severity.TheVariants.{Error}
use Rattle.plan.specs.Weight.{heaviest, weight}
use Rattle.ac_calls.specs.Calls.{MacroCall, calls_in}
use Rattle.ac_tree.specs.Script.{Script}
use Rattle.lint_errors.specs.Errors.{Shown, finding_view, error_at, is_other, of_call, errors_read, errors_refused, AreErrors, EndsIn, IsAccepted}
use Rattle.lint_all.specs.Found.{IsError, IsErrorOf, AreAmong}

-- what is said of an error: that it is one of the source
abbrev IsShown : Shown → Type 0
IsShown s = (s.0 ≡ 0) × (s.2 ≡ Error)

by_test : (t : Bool) (at : ℕ) → All IsShown (cond t (error_at at ∷ []) [])
by_test true at = All-cons IsShown (error_at at) [] (refl, refl) (All-nil IsShown)
by_test false at = All-nil IsShown

calls_shown : (fault : ParseFault) (calls : List MacroCall) → All IsShown (flat_map (of_call fault) calls)
calls_shown fault [] = All-nil IsShown
calls_shown fault (c ∷ calls) = All-append IsShown (of_call fault c) (flat_map (of_call fault) calls) (by_test (is_other fault c) c.start) (calls_shown fault calls)

refused_shown : (fault : ParseFault) (place : ℕ) (calls : List MacroCall) → All IsShown (errors_refused fault place calls)
refused_shown fault place calls = All-cons IsShown (error_at place) (flat_map (of_call fault) calls) (refl, refl) (calls_shown fault calls)

unmapped : (list : List Finding) → All IsShown (map finding_view list) → All IsError list
unmapped [] h = All-nil IsError
unmapped (f ∷ list) h = All-cons IsError f list (All-head IsShown (finding_view f) (map finding_view list) h) (unmapped list (All-tail IsShown (finding_view f) (map finding_view list) h))

by_reading : (text : List ℕ) (list : List Finding) (o : Result Script ParseFault) → AreErrors text o list → All IsError list
by_reading text list (Ok s) e = unmapped list (All-same IsShown (map finding_view list) (errors_read s) e (by_test (nat_lt heaviest (weight s)) 0))
by_reading text list (Err f) r = All-permutation IsError r.found list r.same (unmapped r.found (All-same IsShown (map finding_view r.found) (errors_refused f r.place (calls_in text)) r.exact (refused_shown f r.place (calls_in text))))

-- the errors that a first reading finds are errors of the source
pub first_errors : (text : List ℕ) (list : List Finding) → AreErrors text (source_of text) list → All IsError list
first_errors text list e = by_reading text list (source_of text) e

-- and end in it
pub first_of : (text : List ℕ) (list : List Finding) → AreErrors text (source_of text) list → All (EndsIn (length text)) list → All (IsErrorOf (length text)) list
first_of text list e ends = let are = first_errors text list e in λ k d lt. (are k d lt, ends k d lt)

contains_some : (list : List Finding) (x : Finding) → Contains list x → list ≡ [] → ⊥
contains_some list x has none = let n = ap length none in let lt = has.1 in omega (arith, n, lt)

-- if there are errors at first, those that are listed aren't none
pub none_never : (text : List ℕ) (first list : List Finding) → (first ≡ [] → ⊥) → ((first ≡ []) ↔ IsAccepted text) → AreAmong first list → (list ≡ []) ↔ IsAccepted text
none_never text [] list some same among = absurd (some refl)
none_never text (f ∷ first) list some same among = (
  λ none. absurd (contains_some list f (among 0 f (omega arith)) none),
  λ a. absurd (some (same.1 a)),
)

pub not_empty : (list : List Finding) (n : ℕ) (t : Bool) → n ≡ length list → t ≡ (n == 0) → t ≡ false → list ≡ [] → ⊥
not_empty list n t len is off e = let zero : n ≡ 0 = len ∙ ap length e in absurd (false≢true (sym off ∙ is ∙ ap (λ m. m == 0) zero))

-- what is said of a list is said of what a call returned
pub along : {T E : Type 0} (P Q : T → Type 0) → ((x : T) → P x → Q x) → (r : Result T E) → IfOk r P → IfOk r Q
along P Q f (Ok x) p = f x p
along P Q f (Err e) p = tt
