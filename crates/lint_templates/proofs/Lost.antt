-- The words of the warning about a definition that goes nowhere, and where it is.
use Rattle.std.proofs.Common.{◌≡◌, ℕ, zero, suc, ◌+◌, ◌≤◌, ◌<◌, List, [], ◌∷◌, ◌++◌, length, take, flat_map, get_or, Option, Some, None, IfSome, refl, ap, ◌∙◌, sym, arith}
use Rattle.std.proofs.lemmas.List.{flat_map_more, take_more}
use Rattle.memchr.specs.Find.{FindsNeedle, first_of, matches}
use Rattle.memchr.proofs.lemmas.ValueLemmas.{FindsNeedle-value}
use Rattle.lint_findings.specs.Warned.{warning_of}
use Rattle.lint_findings.specs.declared.finding.Finding.{Finding}
use Rattle.lint_findings.specs.declared.finding.Span.{Span}
use Rattle.lint_table.specs.Filling as table
use Rattle.lint_table.specs.Keys.{name_of, message_of, help_of}
use Rattle.lint_table.specs.declared.key.Key.{Key}
use Rattle.lint_table.specs.declared.part.WordPart.{WordPart}
use Rattle.lint_templates.specs.Unlisted.{placed, filled, first_place, span_of_definition, lost_definition, one_lost, lost_definitions}

placed_one : (part : WordPart) (b : ℕ) → table.placed (part ∷ []) b ≡ placed (table.shown part) b
placed_one part zero = refl
placed_one part (suc zero) = refl
placed_one part (suc (suc zero)) = refl
placed_one part (suc (suc (suc zero))) = refl
placed_one part (suc (suc (suc (suc n)))) = grind arith

pub filled_one : (part : WordPart) (words : List ℕ) → table.filled (part ∷ []) words ≡ filled (table.shown part) words
unfolding table.filled
filled_one part [] = refl
filled_one part (b ∷ words) = ap (λ l. l ++ table.filled (part ∷ []) words) (placed_one part b) ∙ ap (λ l. placed (table.shown part) b ++ l) (filled_one part words)

pub first_is : (text sought : List ℕ) (r : Option ℕ) → FindsNeedle text sought 0 r → r ≡ first_place text sought
first_is text sought r found = FindsNeedle-value text sought r found

pub first_fits : (text sought : List ℕ) (r : Option ℕ) → FindsNeedle text sought 0 r → IfSome r (λ at. at + length sought ≤ length text)
first_fits text sought None found = tt
first_fits text sought (Some at) found = found.1.fits

-- The warning in the words of a key whose one part is a name.
pub warned : (key : Key) (source name : List ℕ) (span : Span) (part : WordPart) (old new : List Finding) → span ≡ span_of_definition source name
    → table.shown part ≡ name
    → new ≡ old ++ (warning_of source span (name_of key) (table.filled (part ∷ []) (message_of key)) (table.filled (part ∷ []) (help_of key)) ∷ [])
    → new ≡ old ++ (lost_definition key source name ∷ [])
warned key source name span part old new place shown added =
    let words : (text : List ℕ) → table.filled (part ∷ []) text ≡ filled name text = λ text. filled_one part text ∙ ap (λ n. filled n text) shown in
    added
    ∙ ap (λ s. old ++ (warning_of source s (name_of key) (table.filled (part ∷ []) (message_of key)) (table.filled (part ∷ []) (help_of key)) ∷ [])) place
    ∙ ap (λ m. old ++ (warning_of source (span_of_definition source name) (name_of key) m (table.filled (part ∷ []) (help_of key)) ∷ [])) (words (message_of key))
    ∙ ap (λ h. old ++ (warning_of source (span_of_definition source name) (name_of key) (filled name (message_of key)) h ∷ [])) (words (help_of key))

-- One more definition, which may go nowhere.
pub more_lost : (key : Key) (listed : List (List ℕ)) (source : List ℕ) (defined : List (List ℕ)) (i : ℕ) (given name : List ℕ) (first old new : List Finding)
    → i < length defined → given ≡ name → name ≡ get_or defined i name
    → old ≡ first ++ lost_definitions key listed source (take i defined)
    → new ≡ old ++ one_lost key listed source given
    → new ≡ first ++ lost_definitions key listed source (take (i + 1) defined)
more_lost key listed source defined i given name first old new lt same is before added =
    let f : List ℕ → List Finding = one_lost key listed source in
    let at : take i defined ++ given ∷ [] ≡ take (i + 1) defined =
    ap (λ n. take i defined ++ n ∷ []) (same ∙ is) ∙ sym (take_more defined i name lt) in
    added ∙ ap (λ l. l ++ f given) before ∙ flat_map_more f first (take i defined) given ∙ ap (λ l. first ++ flat_map f l) at
