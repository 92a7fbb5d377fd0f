-- Errors of templates that were not read, and whether a source has an error.
use Rattle.std.proofs.Common.{◌≡◌, ◌↔◌, ℕ, ◌+◌, ◌<◌, ◌≤◌, Bool, true, false, not, ◌||◌, List, [], ◌∷◌, ◌++◌, Option, Some, None, Result, Ok, Err, OnOk, length, take, get_or, refl, sym, ap, subst, ◌∙◌, arith, true≢false, ne_eqb}
use Rattle.std.specs.Prelude.{All, bytes_eq, ◌==◌}
use Rattle.std.specs.List.{list_any}
use Rattle.std.proofs.lemmas.List.{take_all}
use Rattle.std.proofs.lemmas.List.Folds.{Any-from_list_any, list_any_at, list_any_more, list_any-append}
use Rattle.std.proofs.lemmas.Slice.Eq.{bytes_eq-Decides}
use Rattle.acparse.specs.Profile.{source_of}
use Rattle.ac_statement.specs.declared.fault.ParseFault.{ParseFault}
use Rattle.file_disk.specs.Known.{Known}
use Rattle.lint_findings.specs.declared.finding.Finding.{Finding}
use Rattle.cmd_call.specs.Supplies.{AreTemplates, HasTemplate, ReadsTemplate}
use Rattle.lint_sources.specs.Missing.{is_lost, script_in, AreAdded, AreChecked, AreCheckedOf, HasSome, Lacks}
use Rattle.lint_sources.specs.Sources.{HasError, IsMissing, IsThere, outputs_of}
use Rattle.lint_sources.specs.Sources as specs
use Rattle.lint_errors.specs.Errors.{IsAccepted}
use Rattle.output_list.specs.declared.output.Output.{Output}
use Rattle.ac_tree.specs.declared.tree.Stmt.{Stmt}
use Rattle.ac_tree.specs.Script.{Script, script_of}
use Rattle.lint_errors.specs.Readings.{IsRead}

-- ---- what errors became

pub pushed : (old new : List Finding) (error : Finding) → new ≡ old ++ error ∷ [] → AreAdded true old new
pushed old new error is none = no_end old error (sym is ∙ none)
  where
    no_end : (old : List Finding) (error : Finding) → old ++ error ∷ [] ≡ [] → ⊥
    no_end [] error e = cc
    no_end (f ∷ old) error e = cc

-- Those of some outputs, and then those of others
pub both_added : (a b : Bool) (old mid new : List Finding) → AreAdded a old mid → AreAdded b mid new → AreAdded (a || b) old new
both_added false false old mid new first second = second ∙ first
both_added false true old mid new first second = second
both_added true false old mid new first second = λ none. first (sym second ∙ none)
both_added true true old mid new first second = second

pub lost_more : (templates : List (List ℕ × List ℕ)) (outputs : List Output) (i : ℕ) (output : Output) (old mid new : List Finding) → i < length outputs → output ≡ get_or outputs i output
    → AreAdded (list_any (is_lost templates) (take i outputs)) old mid → AreAdded (is_lost templates output) mid new
    → AreAdded (list_any (is_lost templates) (take (i + 1) outputs)) old new
lost_more templates outputs i output old mid new within at before one =
    let joined = both_added (list_any (is_lost templates) (take i outputs)) (is_lost templates output) old mid new before one in
    let more : (list_any (is_lost templates) (take i outputs) || is_lost templates output) ≡ list_any (is_lost templates) (take (i + 1) outputs) =
    ap (λ o. list_any (is_lost templates) (take i outputs) || is_lost templates o) at ∙ sym (list_any_more (is_lost templates) outputs i output within) in
    subst (λ b. AreAdded b old new) more joined

pub lost_all : (templates : List (List ℕ × List ℕ)) (outputs : List Output) (i : ℕ) (old new : List Finding) → length outputs ≤ i
    → AreAdded (list_any (is_lost templates) (take i outputs)) old new → AreAdded (list_any (is_lost templates) outputs) old new
lost_all templates outputs i old new all before = subst (λ l. AreAdded (list_any (is_lost templates) l) old new) (take_all i outputs all) before

pub lost_both : {A E : Type 0} (r : Result A E) (templates : List (List ℕ × List ℕ)) (files headers : List Output) (old mid new : List Finding)
    → AreAdded (list_any (is_lost templates) files) old mid → OnOk r (AreAdded (list_any (is_lost templates) headers) mid new)
    → OnOk r (AreAdded (list_any (is_lost templates) (files ++ headers)) old new)
lost_both (Err e) templates files headers old mid new first second = tt
lost_both (Ok x) templates files headers old mid new first second =
    subst (λ b. AreAdded b old new) (sym (list_any-append (is_lost templates) files headers))
    (both_added (list_any (is_lost templates) files) (list_any (is_lost templates) headers) old mid new first second)

-- ---- whether each template can be read

not_true : (b : Bool) → not b ≡ true → b ≡ false
not_true true is = absurd (true≢false (sym is))
not_true false is = refl

not_false : (b : Bool) → not b ≡ false → b ≡ true
not_false true is = refl
not_false false is = absurd (true≢false is)

-- A template that is not among those that were read can't be read.
missing_of : (files : Option Known) (directory : List ℕ) (templates : List (List ℕ × List ℕ)) (output : Output) → HasTemplate files directory templates output.template
    → list_any (λ template. bytes_eq template.0 output.template) templates ≡ false → IsMissing files directory output
missing_of files directory templates output (None, reads, has) lost = reads
missing_of files directory templates output (Some text, reads, has) lost =
    let same : bytes_eq output.template output.template ≡ true = (bytes_eq-Decides output.template output.template).1 refl in
    let found : list_any (λ (template : List ℕ × List ℕ). bytes_eq template.0 output.template) templates ≡ true =
    list_any_at (λ (template : List ℕ × List ℕ). bytes_eq template.0 output.template) templates has.0 (output.template, text) has.1
    (ap (λ (template : List ℕ × List ℕ). bytes_eq template.0 output.template) has.2 ∙ same) in
    absurd (true≢false (sym found ∙ lost))

-- A template among those that were read can be read.
there_of : (files : Option Known) (directory : List ℕ) (templates : List (List ℕ × List ℕ)) (output : Output)
    → All (λ t. ReadsTemplate files directory t.0 (Some t.1)) templates
    → list_any (λ template. bytes_eq template.0 output.template) templates ≡ true → IsThere files directory output
there_of files directory templates output sound e =
    let found = Any-from_list_any (λ (t : List ℕ × List ℕ). bytes_eq t.0 output.template) templates e in
    let x : List ℕ × List ℕ = found.1 in
    let named : x.0 ≡ output.template = (bytes_eq-Decides x.0 output.template).0 found.4 in
    let reads : ReadsTemplate files directory x.0 (Some x.1) = subst (λ (t : List ℕ × List ℕ). ReadsTemplate files directory t.0 (Some t.1)) found.3 (sound found.0 x found.2) in
    (x.1, subst (λ n. ReadsTemplate files directory n (Some x.1)) named reads)

not_lost : (templates : List (List ℕ × List ℕ)) (outputs : List Output) (k : ℕ) (d : Output) → k < length outputs → list_any (is_lost templates) outputs ≡ false
    → (b : Bool) → is_lost templates (get_or outputs k d) ≡ b → is_lost templates (get_or outputs k d) ≡ false
not_lost templates outputs k d within is false same = same
not_lost templates outputs k d within is true same = absurd (true≢false (sym (list_any_at (is_lost templates) outputs k d within same) ∙ is))

lacks_by : (files : Option Known) (directory : List ℕ) (outputs : List Output) (templates : List (List ℕ × List ℕ)) (b : Bool) → AreTemplates files directory outputs templates
    → list_any (is_lost templates) outputs ≡ b → Lacks files directory outputs b
lacks_by files directory outputs templates true are is =
    let found = Any-from_list_any (is_lost templates) outputs is in
    let output : Output = found.1 in
    let has : HasTemplate files directory templates output.template = subst (λ (o : Output). HasTemplate files directory templates o.template) found.3 (are.complete found.0 output found.2) in
    (output, (found.0, found.2, found.3), missing_of files directory templates output has (not_true _ found.4))
lacks_by files directory outputs templates false are is =
    λ k d within. there_of files directory templates (get_or outputs k d) are.sound (not_false _ (not_lost templates outputs k d within is (is_lost templates (get_or outputs k d)) refl))

pub checked : (files : Option Known) (directory : List ℕ) (outputs : List Output) (templates : List (List ℕ × List ℕ)) (old new : List Finding)
    → AreTemplates files directory outputs templates → AreAdded (list_any (is_lost templates) outputs) old new → AreChecked files directory outputs old new
checked files directory outputs templates old new are added =
    record { lacks = list_any (is_lost templates) outputs; is = lacks_by files directory outputs templates (list_any (is_lost templates) outputs) are refl; added = added }

-- ---- whether the source has an error

refused_if : (text : List ℕ) (fault : ParseFault) → source_of text ≡ Err fault → IsAccepted text → ⊥
refused_if text fault is a = let e : Ok a.script ≡ Err fault = sym a.read ∙ is in cc

pub same_script : (a b : Script) {F : Result Script ParseFault} → F ≡ Ok a → F ≡ Ok b → a ≡ b
same_script a b first second = let e : Ok a ≡ Ok b = sym first ∙ second in cc

pub has_some : (list : List Finding) (t : Bool) → t ≡ (length list == 0) → HasSome list (not t)
has_some [] t is = ap not is
has_some (f ∷ list) t is = ap not (is ∙ ne_eqb (length (f ∷ list)) 0 (λ e. absurd (let z : length (f ∷ list) ≡ 0 = e in omega (arith, z))))

by_script : (files : Option Known) (directory text : List ℕ) (script : Script) (errors found : List Finding) (lacks has : Bool) → (errors ≡ []) ↔ IsAccepted text
    → source_of text ≡ Ok script → Lacks files directory (outputs_of script) lacks → AreAdded lacks errors found → HasSome found has → HasError files directory text has
by_script files directory text script errors [] true has none is lack added some = absurd (added refl)
by_script files directory text script errors (f ∷ found) true has none is lack added some =
    subst (HasError files directory text) (sym some) (specs.HasError.missing script lack.0 is lack.1 lack.2)
by_script files directory text script errors [] false has none is lack added some =
    let a : IsAccepted text = none.0 (sym added) in
    let same : script ≡ a.script = same_script script a.script is a.read in
    subst (HasError files directory text) (sym some) (specs.HasError.clean a (subst (λ s. All (IsThere files directory) (outputs_of s)) same lack))
by_script files directory text script errors (f ∷ found) false has none is lack added some =
    subst (HasError files directory text) (sym some) (specs.HasError.refused (λ a. let e : f ∷ found ≡ [] = added ∙ none.1 a in cc))

by_fault : (files : Option Known) (directory text : List ℕ) (errors found : List Finding) (has : Bool) → (errors ≡ []) ↔ IsAccepted text → (IsAccepted text → ⊥)
    → found ≡ errors → HasSome found has → HasError files directory text has
by_fault files directory text errors [] has none not_accepted same some = absurd (not_accepted (none.0 (sym same)))
by_fault files directory text errors (f ∷ found) has none not_accepted same some = subst (HasError files directory text) (sym some) (specs.HasError.refused not_accepted)

pub has_error : (files : Option Known) (directory text : List ℕ) (source : Result (List Stmt) ParseFault) (errors found : List Finding) (has : Bool) → (errors ≡ []) ↔ IsAccepted text
    → IsRead text source → AreCheckedOf files directory (script_in source) errors found → HasSome found has → HasError files directory text has
has_error files directory text (Err fault) errors found has none read same some = by_fault files directory text errors found has none (refused_if text fault read) same some
has_error files directory text (Ok statements) errors found has none read c some = by_script files directory text (script_of statements) errors found c.lacks has none read c.is c.added some

-- The same of a text that was lent
pub lent_error : (files : Option Known) (directory text slice : List ℕ) (source : Result (List Stmt) ParseFault) (errors found lent : List Finding) (has : Bool) → slice ≡ text → lent ≡ found
    → (errors ≡ []) ↔ IsAccepted slice → IsRead slice source → AreCheckedOf files directory (script_in source) errors found → HasSome lent has → HasError files directory text has
lent_error files directory text slice source errors found lent has same is none read checks some =
    subst (λ t. HasError files directory t has) same (has_error files directory slice source errors found has none read checks (subst (λ l. HasSome l has) is some))
