-- Which items an argument holds, and which call is alone among them.
use Rattle.std.proofs.Common.{◌≡◌, ◌↔◌, ◌⊎◌, inl, inr, ◌&&◌, Bool, true, false, cond, ℕ, List, [], ◌∷◌, ◌++◌, Option, Some, None, Result, Ok, Err, refl, sym, ap, subst, ◌∙◌}
use Rattle.std.specs.Str.{bytes_eq}
use Rattle.std.proofs.lemmas.Bool.{and_parts}
use Rattle.std.proofs.lemmas.List.Folds.{list_all-append}
use Rattle.std.proofs.lemmas.Slice.Eq.{bytes_eq-Decides}
use Rattle.text_cut.specs.Cuts.{is_blank}
use Rattle.m4quote.specs.declared.fault.QuoteFault.{QuoteFault}
use Rattle.m4quote.specs.declared.fault.QuoteFault.TheVariants as quote
use Rattle.m4quote.specs.ItemValue.{Span, ItemValue, call, bare}
use Rattle.m4quote.specs.Faults.{IsFirstFault}
use Rattle.m4quote.specs.Scan.{outcome}
use Rattle.m4quote.specs.Spelling.{IsSpelling}
use Rattle.m4quote.proofs.Laws.{outcome_is_spelling, outcome_is_fault, one_list, never_both, fault_is_not_memory}
use Rattle.ac_statement.specs.declared.fault.ParseFault.{ParseFault}
use Rattle.ac_statement.specs.declared.fault.ParseFault.TheVariants.{Quote}
use Rattle.ac_statement.specs.Inside.{items_of, items_of_run, call_items, inside_of, only_text, run_inside, are_blank}
use Rattle.ac_statement.specs.Reading.{◌>>=◌, quoted, quote_fault}
use Rattle.ac_statement.specs.Texts.{is_all_blank}
use Rattle.ac_statement.specs.Standing.{IsRun, IsAllBut}
use Rattle.ac_statement.proofs.Binds.{bind_ok, bind_err, ok_is}
use Rattle.ac_statement.proofs.Runs.{IsRun-inside, inside-IsRun}
use Rattle.ac_args.specs.Help.{Called, sole_call}
use Rattle.ac_laws.specs.Holding.{IsQuotedRun, HoldsItems, in_run, its_own, IsCallAlone, HasItemsFault, in_run_fault, own_fault, ItemsAreHeld, CallsAreAlone, ItemsAreRefused}

-- ---- the one bare text that is not blank

both : {a c : Bool} → a ≡ true → c ≡ true → (a && c) ≡ true
both {a} {c} e h = ap (λ x. x && c) e ∙ h

only_all_but : (items : List ItemValue) (s : Span) → only_text items ≡ Some s → IsAllBut items s
only_all_but [] s e = absurd cc
only_all_but (call name args at ∷ items) s e = absurd cc
only_all_but (bare t at ∷ items) s e = by (is_all_blank t) refl (are_blank items) refl e (only_all_but items s) where
  by : (b : Bool) → is_all_blank t ≡ b → (c : Bool) → are_blank items ≡ c
      → cond b (only_text items) (cond c (Some (record { text = t; at = at })) None) ≡ Some s → (only_text items ≡ Some s → IsAllBut items s) → IsAllBut (bare t at ∷ items) s
  by true blank c more h rec =
      let rest = rec h in
      record {
        before = bare t at ∷ rest.before;
        after = rest.after;
        parts = ap (λ (l : List ItemValue). bare t at ∷ l) rest.parts;
        blank_before = both blank rest.blank_before;
        blank_after = rest.blank_after;
      }
  by false other true more h rec =
      let text : t ≡ s.text = cc in
      let place : at ≡ s.at = cc in
      record { before = []; after = items; parts = rw (text, place) refl; blank_before = refl; blank_after = more }
  by false other false more h rec = absurd cc

all_but_only : (before after : List ItemValue) (t : List ℕ) (at : ℕ) → are_blank before ≡ true → are_blank after ≡ true → is_all_blank t ≡ false → only_text (before ++ bare t at ∷ after) ≡ Some (record { text = t; at = at })
all_but_only [] after t at h k other = rw (other, k) refl
all_but_only (call name args to ∷ before) after t at h k other = absurd cc
all_but_only (bare u to ∷ before) after t at h k other =
    let parts = and_parts (is_all_blank u) (are_blank before) h in
    ap (λ b. cond b (only_text (before ++ bare t at ∷ after)) (cond (are_blank (before ++ bare t at ∷ after)) (Some (record { text = u; at = to })) None)) parts.0
    ∙ all_but_only before after t at parts.1 k other

run_not_blank : (s inside : Span) → IsRun s inside → is_all_blank s.text ≡ false
run_not_blank s inside r = ap is_all_blank r.parts ∙ list_all-append is_blank r.before _ ∙ rw r.blank_before refl

-- ---- the quoted run

run_of : (o : Option Span) (t : Span) → inside_of o ≡ Some t → (s : Span) × (o ≡ Some s) × (run_inside s ≡ Some t)
run_of None t e = absurd cc
run_of (Some s) t e = (s, refl, e)

quoted_ok : {A : Type 0} (r : Result A QuoteFault) (x : A) → quoted r ≡ Ok x → r ≡ Ok x
quoted_ok (Ok y) x e = let same : y ≡ x = cc in ap (λ z. Ok z) same
quoted_ok (Err f) x e = absurd cc

quoted_is : (q : QuoteFault) → (q ≡ quote.OutOfMemory → ⊥) → quote_fault q ≡ Quote q
quoted_is (quote.UnclosedQuote at) apart = refl
quoted_is (quote.UnclosedParen at) apart = refl
quoted_is (quote.StrayClose at) apart = refl
quoted_is (quote.Nul at) apart = refl
quoted_is quote.TooLarge apart = refl
quoted_is quote.TooDeep apart = refl
quoted_is quote.OutOfMemory apart = absurd (apart refl)

quoted_err : {A : Type 0} (r : Result A QuoteFault) (f : ParseFault) → quoted r ≡ Err f → (q : QuoteFault) × (r ≡ Err q) × (quote_fault q ≡ f)
quoted_err (Ok y) f e = absurd cc
quoted_err (Err q) f e = (q, refl, cc)

spelled : (s : Span) (items : List ItemValue) → items_of s ≡ Ok items → IsSpelling s.at s.text items
spelled s items e = (outcome_is_spelling s.at s.text items).0 (quoted_ok (outcome s.at s.text) items e)

reads : (s : Span) (items : List ItemValue) → IsSpelling s.at s.text items → items_of s ≡ Ok items
reads s items h = ap (λ r. quoted r) ((outcome_is_spelling s.at s.text items).1 h)

-- A text has the first error that its items have.
breaks : (s : Span) (f : ParseFault) → items_of s ≡ Err f → (q : QuoteFault) × IsFirstFault s.at s.text q × (f ≡ Quote q)
breaks s f e =
    let u = quoted_err (outcome s.at s.text) f e in
    let first = (outcome_is_fault s.at s.text u.0).0 u.1 in
    (u.0, first, sym u.2 ∙ quoted_is u.0 (fault_is_not_memory s.at s.text u.0 first))

refuses : (s : Span) (q : QuoteFault) → IsFirstFault s.at s.text q → items_of s ≡ Err (Quote q)
refuses s q h =
    ap (λ r. quoted r) ((outcome_is_fault s.at s.text q).1 h) ∙ ap (λ f. Err f) (quoted_is q (fault_is_not_memory s.at s.text q h))

module _ (arg : Span) where
  some_run : (items : List ItemValue) (t : Span) → IsSpelling arg.at arg.text items → inside_of (only_text items) ≡ Some t → IsQuotedRun arg t
  some_run items t h e =
      let u = run_of (only_text items) t e in
      record { items = items; text = u.0; spelling = h; alone = only_all_but items u.0 u.1; run = inside-IsRun u.0 t u.2 }

  run_is : (inside : Span) (r : IsQuotedRun arg inside) → inside_of (only_text r.items) ≡ Some inside
  run_is inside r =
      let only : only_text r.items ≡ Some r.text =
      ap only_text r.alone.parts ∙ all_but_only r.alone.before r.alone.after r.text.text r.text.at r.alone.blank_before r.alone.blank_after (run_not_blank r.text inside r.run) in
      ap inside_of only ∙ IsRun-inside r.text inside r.run

  no_run : (items : List ItemValue) → IsSpelling arg.at arg.text items → inside_of (only_text items) ≡ None → (inside : Span) → IsQuotedRun arg inside → ⊥
  no_run items h e inside r =
      let same : r.items ≡ items = one_list arg.at arg.text r.items items r.spelling h in
      let is : inside_of (only_text items) ≡ Some inside = ap (λ l. inside_of (only_text l)) (sym same) ∙ run_is inside r in
      let clash : None ≡ Some inside = sym e ∙ is in absurd cc

  abbrev next : List ItemValue → Result (List ItemValue) ParseFault
  next items = items_of_run items (inside_of (only_text items))

  -- ---- items

  held : (items : List ItemValue) → call_items arg ≡ Ok items → HoldsItems arg items
  unfolding call_items
  held items e =
      let b = bind_ok (items_of arg) next items e in
      by b.0 (spelled arg b.0 b.1) (inside_of (only_text b.0)) refl b.2 where
        by : (found : List ItemValue) → IsSpelling arg.at arg.text found → (o : Option Span) → inside_of (only_text found) ≡ o → items_of_run found o ≡ Ok items → HoldsItems arg items
        by found h (Some t) is e = in_run t (some_run found t h is) (spelled t items e)
        by found h None is e = subst (HoldsItems arg) (ok_is found items e) (its_own (no_run found h is) h)

  holds : (items : List ItemValue) → HoldsItems arg items → call_items arg ≡ Ok items
  unfolding call_items
  holds items (in_run inside r h) =
      ap (λ q. q >>= next) (reads arg r.items r.spelling) ∙ ap (items_of_run r.items) (run_is inside r) ∙ reads inside items h
  holds items (its_own none h) = ap (λ q. q >>= next) (reads arg items h) ∙ by (inside_of (only_text items)) refl where
    by : (o : Option Span) → inside_of (only_text items) ≡ o → items_of_run items o ≡ Ok items
    by None is = refl
    by (Some t) is = absurd (none t (some_run items t h is))

  -- ---- their first error

  quote_is : (q : QuoteFault) (f : ParseFault) → f ≡ Quote q → HasItemsFault arg (Quote q) → HasItemsFault arg f
  quote_is q f e h = subst (HasItemsFault arg) (sym e) h

  refused : (f : ParseFault) → call_items arg ≡ Err f → HasItemsFault arg f
  unfolding call_items
  refused f e =
      elim (bind_err (items_of arg) next f e) [
        | inl bad ↦ (let u = breaks arg f bad in quote_is u.0 f u.2 (own_fault u.1))
        | inr good ↦ by good.0 (spelled arg good.0 good.1) (inside_of (only_text good.0)) refl good.2
      ] where
        by : (found : List ItemValue) → IsSpelling arg.at arg.text found → (o : Option Span) → inside_of (only_text found) ≡ o → items_of_run found o ≡ Err f → HasItemsFault arg f
        by found h (Some t) is e = let u = breaks t f e in quote_is u.0 f u.2 (in_run_fault t (some_run found t h is) u.1)
        by found h None is e = absurd cc

  refuses_all : (f : ParseFault) → HasItemsFault arg f → call_items arg ≡ Err f
  unfolding call_items
  refuses_all f (in_run_fault inside {fault = q} r h) =
      ap (λ x. x >>= next) (reads arg r.items r.spelling) ∙ ap (items_of_run r.items) (run_is inside r) ∙ refuses inside q h
  refuses_all f (own_fault {fault = q} h) = ap (λ x. x >>= next) (refuses arg q h)

pub items_are_held : ItemsAreHeld
items_are_held arg items = (held arg items, holds arg items)

pub items_are_refused : ItemsAreRefused
items_are_refused arg fault = (refused arg fault, refuses_all arg fault)

-- ---- one call

call_found : (name : List ℕ) (items : List ItemValue) (c : Called) → sole_call name items ≡ Some c → IsCallAlone name items c
call_found name [] c e = absurd cc
call_found name (call other args at ∷ items) c e = by (bytes_eq other name && are_blank items) refl e where
  by : (b : Bool) → (bytes_eq other name && are_blank items) ≡ b → cond b (Some (record { args = args; at = at })) None ≡ Some c → IsCallAlone name (call other args at ∷ items) c
  by false is h = absurd cc
  by true is h =
      let parts = and_parts (bytes_eq other name) (are_blank items) is in
      let named : other ≡ name = (bytes_eq-Decides other name).0 parts.0 in
      let here : Called = record { args = args; at = at } in
      let same : here ≡ c = cc in
      subst (IsCallAlone name (call other args at ∷ items)) same
      (record { before = []; after = items; parts = ap (λ n. call n args at ∷ items) named; blank_before = refl; blank_after = parts.1 })
call_found name (bare t at ∷ items) c e = by (is_all_blank t) refl e (call_found name items c) where
  by : (b : Bool) → is_all_blank t ≡ b → cond b (sole_call name items) None ≡ Some c → (sole_call name items ≡ Some c → IsCallAlone name items c) → IsCallAlone name (bare t at ∷ items) c
  by false blank h rec = absurd cc
  by true blank h rec =
      let rest = rec h in
      record {
        before = bare t at ∷ rest.before;
        after = rest.after;
        parts = ap (λ (l : List ItemValue). bare t at ∷ l) rest.parts;
        blank_before = both blank rest.blank_before;
        blank_after = rest.blank_after;
      }

finds_call : (name : List ℕ) (before after : List ItemValue) (c : Called) → are_blank before ≡ true → are_blank after ≡ true → sole_call name (before ++ call name c.args c.at ∷ after) ≡ Some c
finds_call name [] after c h k = ap (λ b. cond b (Some c) None) (both ((bytes_eq-Decides name name).1 refl) k)
finds_call name (call other args at ∷ before) after c h k = absurd cc
finds_call name (bare t at ∷ before) after c h k =
    let parts = and_parts (is_all_blank t) (are_blank before) h in
    ap (λ b. cond b (sole_call name (before ++ call name c.args c.at ∷ after)) None) parts.0 ∙ finds_call name before after c parts.1 k

pub calls_are_alone : CallsAreAlone
calls_are_alone name items c = (call_found name items c, λ h. ap (sole_call name) h.parts ∙ finds_call name h.before h.after c h.blank_before h.blank_after)
