-- Pages of findings, finding by finding.
use Rattle.std.proofs.Common.{◌≡◌, ℕ, ◌+◌, ◌<◌, ◌≤◌, List, [], ◌∷◌, ◌++◌, min, Option, Some, None, Result, Bor, length, take, drop, get_or, sym, ap, subst, ◌∙◌}
use Rattle.std.specs.Prelude.{option_map, IfOk}
use Rattle.std.proofs.lemmas.List.{take_all, take_min, take_more}
use Rattle.lint_findings.specs.declared.finding.Finding.{Finding}
use Rattle.lint_sources.specs.Sheets.{name_or, sheet_at, text_or}
use Rattle.lint_sources.specs.Shown.{AreShown, IsPage, IsShown, IsText, Shows}
use Rattle.lint_sources.specs.Shown as specs
use Rattle.lint_sources.specs.declared.reading.Linted.{Linted}
use Rattle.lint_sources.specs.declared.sheets.Sheet.{Sheet}
use Rattle.lint_sources.specs.declared.sheets.Sheets.{Sheets}

by_sheet : {E : Type 0} (r : Result (List ℕ) E) (shows : Shows) (linted : Linted) (sheets : Sheets) (finding : Finding) (o : Option Sheet) → o ≡ sheet_at sheets finding.file
    → IfOk r (IsText (shows finding (name_or linted.name o) (text_or linted.text o))) → IfOk r (IsShown shows linted sheets finding)
by_sheet r shows linted sheets finding o is h = subst (λ sheet. IfOk r (IsText (shows finding (name_or linted.name sheet) (text_or linted.text sheet)))) is h

-- A finding in a template
pub in_sheet : {E : Type 0} (r : Result (List ℕ) E) (shows : Shows) (linted : Linted) (sheets : Sheets) (finding : Finding) (o : Option (Bor Sheet)) (sheet : Bor Sheet)
    → option_map (λ s. s.now) o ≡ sheet_at sheets finding.file → o ≡ Some sheet → IfOk r (IsText (shows finding sheet.now.name sheet.now.text)) → IfOk r (IsShown shows linted sheets finding)
in_sheet r shows linted sheets finding o sheet at is h = by_sheet r shows linted sheets finding (Some sheet.now) (ap (option_map (λ s. s.now)) (sym is) ∙ at) h

-- A finding in the source
pub in_source : {E : Type 0} (r : Result (List ℕ) E) (shows : Shows) (linted : Linted) (sheets : Sheets) (finding : Finding) (o : Option (Bor Sheet))
    → option_map (λ s. s.now) o ≡ sheet_at sheets finding.file → o ≡ None → IfOk r (IsText (shows finding linted.name linted.text)) → IfOk r (IsShown shows linted sheets finding)
in_source r shows linted sheets finding o at is h = by_sheet r shows linted sheets finding None (ap (option_map (λ s. s.now)) (sym is) ∙ at) h

-- The first thousand
pub first_is : (n : ℕ) (found : List Finding) → n ≡ min 1000 (length found) → take n found ≡ take 1000 found
first_is n found is = ap (λ k. take k found) is ∙ take_min 1000 found

-- One more finding
pub one_shown : (shows : Shows) (linted : Linted) (sheets : Sheets) (found : List Finding) (i : ℕ) (finding : Finding) (old new text lent : List ℕ) → i < length found → finding ≡ get_or found i finding
    → AreShown shows linted sheets (take i found) old → IsShown shows linted sheets finding text → lent ≡ text → new ≡ old ++ lent → AreShown shows linted sheets (take (i + 1) found) new
one_shown shows linted sheets found i finding old new text lent within at before is same added =
    let more : take i found ++ finding ∷ [] ≡ take (i + 1) found = ap (λ f. take i found ++ f ∷ []) at ∙ sym (take_more found i finding within) in
    let page : old ++ text ≡ new = ap (λ t. old ++ t) (sym same) ∙ sym added in
    subst (λ list. AreShown shows linted sheets list new) more (subst (AreShown shows linted sheets (take i found ++ finding ∷ [])) page (specs.AreShown.next finding text before is))

-- All of them
pub all_shown : (shows : Shows) (linted : Linted) (sheets : Sheets) (found : List Finding) (i : ℕ) (page : List ℕ) → length found ≤ i → AreShown shows linted sheets (take i found) page → AreShown shows linted sheets found page
all_shown shows linted sheets found i page all before = subst (λ list. AreShown shows linted sheets list page) (take_all i found all) before

no_more : (page rest : List ℕ) → page ++ rest ≡ page → rest ≡ []
no_more [] rest e = e
no_more (x ∷ page) rest e = no_more page rest (ap (drop 1) e)

-- A page, and a line about the rest
pub paged : (shows : Shows) (linted : Linted) (sheets : Sheets) (found first : List Finding) (n : ℕ) (page new : List ℕ) → first ≡ take 1000 found → AreShown shows linted sheets first page
    → n ≡ length found → ((rest : List ℕ) × (new ≡ page ++ rest)) → (n ≤ 1000 → new ≡ page) → IsPage shows linted sheets found new
paged shows linted sheets found first n page new is shown count added few = record {
  front = page;
  shown = subst (λ list. AreShown shows linted sheets list page) is shown;
  rest = added.0;
  is = added.1;
  few = λ le. no_more page added.0 (sym added.1 ∙ few (subst (λ k. k ≤ 1000) (sym count) le));
}
