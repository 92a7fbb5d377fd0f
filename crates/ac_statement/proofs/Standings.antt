-- What a statement argument denotes, as a function and as a relation.
use Rattle.std.proofs.Common.{◌≡◌, ◌↔◌, ◌⊎◌, inl, inr, ℕ, suc, ◌+◌, ◌-◌, Bool, true, false, cond, List, [], ◌∷◌, ◌++◌, length, drop, get_or, Option, Some, None, Result, Ok, Err, refl, sym, ap, subst, ◌∙◌, arith}
use Rattle.std.specs.Prelude.{Any}
use Rattle.std.proofs.lemmas.List.{get_or-drop, get_or-take, length-append}
use Rattle.std.proofs.lemmas.List.Folds.{list_all-append}
use Rattle.std.proofs.Math.Seq.{drop-append_seam}
use Rattle.text_cut.specs.Cuts.{is_blank}
use Rattle.m4quote.specs.declared.fault.QuoteFault.{QuoteFault}
use Rattle.m4quote.specs.declared.fault.QuoteFault.TheVariants as quote
use Rattle.m4quote.specs.ItemValue.{Span, ItemValue, call, bare}
use Rattle.m4quote.specs.Faults.{IsFirstFault}
use Rattle.m4quote.specs.Parts.{ArePartsOf}
use Rattle.m4quote.specs.Scan.{outcome}
use Rattle.m4quote.specs.Spelling.{IsSpelling}
use Rattle.m4quote.proofs.Laws.{outcome_is_spelling, outcome_is_fault, spelling_parts, fault_is_not_memory}
use Rattle.ac_statement.specs.declared.fault.ParseFault.{ParseFault}
use Rattle.ac_statement.specs.declared.fault.ParseFault.TheVariants.{UnknownStatement, Quote}
use Rattle.ac_statement.specs.Inside.{inside, items_of, inside_of, only_text, run_inside, or_itself, is_unquoted, are_blank}
use Rattle.ac_statement.specs.Reading.{quoted, quote_fault}
use Rattle.ac_statement.specs.Texts.{is_all_blank, is_bracket}
use Rattle.ac_statement.specs.Standing.{IsRun, IsAllBut, IsInCall, HasBracketsInCallsAlone, StandsFor, run, itself}
use Rattle.ac_statement.proofs.Binds.{bind_ok, bind_err, ok_is, err_is}
use Rattle.ac_statement.proofs.InsideLemmas.{part_of}
use Rattle.ac_statement.proofs.Runs.{either, IsRun-inside, inside-IsRun}
use Rattle.ac_statement.proofs.Outside.{split, none_of, unquoted-alone, alone-unquoted}

abbrev some : Span → Option Span
some s = Some s

-- ---- the one bare text that is not blank

only-IsAllBut : (items : List ItemValue) (s : Span) → only_text items ≡ Some s → IsAllBut items s
only-IsAllBut [] s e = absurd cc
only-IsAllBut (call name args at ∷ items) s e = absurd cc
only-IsAllBut (bare t at ∷ items) s e =
    elim (either (is_all_blank t)) [
      | inl blank ↦
          (let rest = only-IsAllBut items s (rw blank at e) in
          record {
            before = bare t at ∷ rest.before;
            after = rest.after;
            parts = ap (λ (l : List ItemValue). bare t at ∷ l) rest.parts;
            blank_before = rw (blank, rest.blank_before) refl;
            blank_after = rest.blank_after;
          })
      | inr other ↦ here (are_blank items) refl (rw other at e)
    ]
  where
    here : (b : Bool) → are_blank items ≡ b → cond b (some (record { text = t; at = at })) None ≡ Some s → IsAllBut (bare t at ∷ items) s
    here false blank h = absurd cc
    here true blank h =
        let text : t ≡ s.text = cc in
        let place : at ≡ s.at = cc in
        record { before = []; after = items; parts = rw (text, place) refl; blank_before = refl; blank_after = blank }

IsAllBut-only : (before after : List ItemValue) (t : List ℕ) (at : ℕ) → are_blank before ≡ true → are_blank after ≡ true → is_all_blank t ≡ false → only_text (before ++ bare t at ∷ after) ≡ Some (record { text = t; at = at })
IsAllBut-only [] after t at h k other = rw (other, k) refl
IsAllBut-only (call name args to ∷ before) after t at h k other = absurd cc
IsAllBut-only (bare u to ∷ before) after t at h k other =
    elim (either (is_all_blank u)) [
      | inl blank ↦ rw blank (IsAllBut-only before after t at (rw blank at h) k other)
      | inr other' ↦ absurd (let e : false ≡ true = rw other' at h in cc)
    ]

run_not_blank : (s inside : Span) → IsRun s inside → is_all_blank s.text ≡ false
run_not_blank s inside r =
    ap is_all_blank r.parts ∙ list_all-append is_blank r.before _ ∙ rw r.blank_before refl

-- No call is beside it.
no_call_in_blank : (p : ℕ) (items : List ItemValue) → are_blank items ≡ true → Any (IsInCall p) items → ⊥
no_call_in_blank p [] blank h = none_of (IsInCall p) h
no_call_in_blank p (call name args at ∷ items) blank h = absurd cc
no_call_in_blank p (bare t at ∷ items) blank h =
    elim (split (IsInCall p) (bare t at) items h) [
      | inl this ↦ this
      | inr later ↦
          (elim (either (is_all_blank t)) [
            | inl here ↦ no_call_in_blank p items (rw here at blank) later
            | inr other ↦ (let e : false ≡ true = rw other at blank in cc)
          ])
    ]

no_call_beside : (p : ℕ) (before after : List ItemValue) (t : List ℕ) (at : ℕ) → are_blank before ≡ true → are_blank after ≡ true → Any (IsInCall p) (before ++ bare t at ∷ after) → ⊥
no_call_beside p [] after t at h k any =
    elim (split (IsInCall p) (bare t at) after any) [ inl this ↦ this | inr later ↦ no_call_in_blank p after k later ]
no_call_beside p (call name args to ∷ before) after t at h k any = absurd cc
no_call_beside p (bare u to ∷ before) after t at h k any =
    elim (split (IsInCall p) (bare u to) (before ++ bare t at ∷ after) any) [
      | inl this ↦ this
      | inr later ↦
          (elim (either (is_all_blank u)) [
            | inl here ↦ no_call_beside p before after t at (rw here at h) k later
            | inr other ↦ (let e : false ≡ true = rw other at h in cc)
          ])
    ]

-- A run's bracket is in no call.
run_alone : (base : ℕ) (text : List ℕ) (items : List ItemValue) (s inside : Span) → ArePartsOf base text items → only_text items ≡ Some s → IsRun s inside → HasBracketsInCallsAlone base text items → ⊥
run_alone base text items s inside parts only r alone =
    let all = only-IsAllBut items s only in
    let part = part_of base text items s parts only in
    let n : ℕ = length r.before in
    let len : length s.text ≡ n + suc (length (inside.text ++ 93 ∷ r.after)) = ap length r.parts ∙ length-append r.before _ in
    let byte : get_or s.text n 0 ≡ 91 =
    ap (λ m. get_or s.text m 0) (let e : n ≡ n + 0 = omega arith in e) ∙ sym (get_or-drop n s.text 0 0) ∙ ap (λ (t : List ℕ). get_or (drop n t) 0 0) r.parts ∙ ap (λ (t : List ℕ). get_or t 0 0) (drop-append_seam r.before (91 ∷ (inside.text ++ 93 ∷ r.after))) in
    let there : get_or text (s.at - base + n) 0 ≡ 91 =
    sym (get_or-drop (s.at - base) text n 0) ∙ sym (get_or-take (length s.text) (drop (s.at - base) text) n 0 (omega (arith, len))) ∙ ap (λ (t : List ℕ). get_or t n 0) part.bytes ∙ byte in
    let in_call = alone (s.at - base + n) (omega (arith, len, part.ends)) (ap is_bracket there) in
    no_call_beside (base + (s.at - base + n)) all.before all.after s.text s.at all.blank_before all.blank_after (subst (Any (IsInCall (base + (s.at - base + n)))) all.parts in_call)

-- ---- the argument

quoted_ok : {A : Type 0} (r : Result A QuoteFault) (x : A) → quoted r ≡ Ok x → r ≡ Ok x
quoted_ok (Ok y) x e = let same : y ≡ x = cc in ap (λ z. Ok z) same
quoted_ok (Err f) x e = absurd cc

quoted_err : {A : Type 0} (r : Result A QuoteFault) (f : ParseFault) → quoted r ≡ Err f → (q : QuoteFault) × (r ≡ Err q) × (quote_fault q ≡ f)
quoted_err (Ok y) f e = absurd cc
quoted_err (Err q) f e = (q, refl, cc)

quoted_is : (q : QuoteFault) → (q ≡ quote.OutOfMemory → ⊥) → quote_fault q ≡ Quote q
quoted_is (quote.UnclosedQuote at) apart = refl
quoted_is (quote.UnclosedParen at) apart = refl
quoted_is (quote.StrayClose at) apart = refl
quoted_is (quote.Nul at) apart = refl
quoted_is quote.TooLarge apart = refl
quoted_is quote.TooDeep apart = refl
quoted_is quote.OutOfMemory apart = absurd (apart refl)

-- Which text is inside.
run_of : (o : Option Span) (t : Span) → inside_of o ≡ Some t → (s : Span) × (o ≡ Some s) × (run_inside s ≡ Some t)
run_of None t e = absurd cc
run_of (Some s) t e = (s, refl, e)

module _ (arg : Span) where
  stands : (items : List ItemValue) (s : Span) (o : Option Span) → inside_of (only_text items) ≡ o → IsSpelling arg.at arg.text items → or_itself arg items o ≡ Ok s → StandsFor arg s
  stands items s (Some t) found spelled e =
      let u = run_of (only_text items) t found in
      subst (StandsFor arg) (ok_is t s e) (run spelled (only-IsAllBut items u.0 u.1) (inside-IsRun u.0 t u.2))
  stands items s None found spelled e = by (is_unquoted arg.text items) refl e where
    by : (b : Bool) → is_unquoted arg.text items ≡ b → cond b (Ok arg) (Err (UnknownStatement arg.at)) ≡ Ok s → StandsFor arg s
    by true is h = subst (StandsFor arg) (ok_is arg s h) (itself spelled (unquoted-alone arg.at arg.text items spelled.spells is))
    by false is h = absurd cc

  inside-StandsFor : (s : Span) → inside arg ≡ Ok s → StandsFor arg s
  unfolding inside
  inside-StandsFor s e =
      let b = bind_ok (items_of arg) (λ items. or_itself arg items (inside_of (only_text items))) s e in
      stands b.0 s (inside_of (only_text b.0)) refl ((outcome_is_spelling arg.at arg.text b.0).0 (quoted_ok (outcome arg.at arg.text) b.0 b.1)) b.2

  read : (items : List ItemValue) → IsSpelling arg.at arg.text items → outcome arg.at arg.text ≡ Ok items
  read items spelled = (outcome_is_spelling arg.at arg.text items).1 spelled

  StandsFor-inside : (s : Span) → StandsFor arg s → inside arg ≡ Ok s
  unfolding inside
  StandsFor-inside s (run {items} {text} {inside = t} spelled all r) =
      let only : only_text items ≡ Some text = ap only_text all.parts ∙ IsAllBut-only all.before all.after text.text text.at all.blank_before all.blank_after (run_not_blank text t r) in
      rw (read items spelled, only, IsRun-inside text t r) refl
  StandsFor-inside s (itself {items} spelled alone) = rw (read items spelled) (by (inside_of (only_text items)) refl) where
    by : (o : Option Span) → inside_of (only_text items) ≡ o → or_itself arg items o ≡ Ok arg
    by None found = rw (alone-unquoted arg.at arg.text items spelled.spells alone) refl
    by (Some t) found =
        let u = run_of (only_text items) t found in
        absurd (run_alone arg.at arg.text items u.0 t (spelling_parts arg.at arg.text items spelled) u.1 (inside-IsRun u.0 t u.2) alone)

  refused : (items : List ItemValue) (f : ParseFault) (o : Option Span) → or_itself arg items o ≡ Err f → f ≡ UnknownStatement arg.at
  refused items f (Some s) e = absurd cc
  refused items f None e = by (is_unquoted arg.text items) e where
    by : (b : Bool) → cond b (Ok arg) (Err (UnknownStatement arg.at)) ≡ Err f → f ≡ UnknownStatement arg.at
    by true h = absurd cc
    by false h = sym (err_is {A = Span} _ _ h)

pub inside_is : (arg s : Span) → (inside arg ≡ Ok s) ↔ StandsFor arg s
inside_is arg s = (inside-StandsFor arg s, StandsFor-inside arg s)

pub inside_fault : (arg : Span) (f : ParseFault) → inside arg ≡ Err f → ((q : QuoteFault) × IsFirstFault arg.at arg.text q × (f ≡ Quote q)) ⊎ (f ≡ UnknownStatement arg.at)
unfolding inside
inside_fault arg f e =
    elim (bind_err (items_of arg) (λ items. or_itself arg items (inside_of (only_text items))) f e) [
      | inl bad ↦
          (let q = quoted_err (outcome arg.at arg.text) f bad in
          let first = (outcome_is_fault arg.at arg.text q.0).0 q.1 in
          inl (q.0, first, sym q.2 ∙ quoted_is q.0 (fault_is_not_memory arg.at arg.text q.0 first)))
      | inr good ↦ inr (refused arg good.0 f (inside_of (only_text good.0)) good.2)
    ]
