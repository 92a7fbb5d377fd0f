-- The warning of a key.
use Rattle.std.proofs.Common.{◌≡◌, ℕ, Bool, true, List, [], ◌∷◌, ◌++◌, Result, Ok, Err, OnOk, ap, ◌∙◌}
use Rattle.lint_findings.specs.Warned.{warning_of}
use Rattle.lint_findings.specs.declared.finding.Finding.{Finding}
use Rattle.lint_findings.specs.declared.finding.Span.{Span}
use Rattle.lint_table.specs.Filling.{Written}

pub warned_by : {A E : Type 0} (r : Result A E) (old new : List Finding) (text : List ℕ) (span : Span) (name called message help words advice : List ℕ) (page : Written) (whole : Bool)
    → name ≡ called → page ≡ record { message = []; help = []; is_whole = true } → OnOk r (whole ≡ true) → (whole ≡ true → message ≡ page.message ++ words) → (whole ≡ true → help ≡ page.help ++ advice)
    → OnOk r (new ≡ old ++ (warning_of text span name message help ∷ [])) → OnOk r (new ≡ old ++ (warning_of text span called words advice ∷ []))
warned_by (Err e) old new text span name called message help words advice page whole same empty is m h added = tt
warned_by (Ok x) old new text span name called message help words advice page whole same empty is m h added =
    added ∙ ap (λ t. old ++ (warning_of text span t message help ∷ [])) same
    ∙ ap (λ t. old ++ (warning_of text span called t help ∷ [])) (m is ∙ ap (λ p. p.message ++ words) empty)
    ∙ ap (λ t. old ++ (warning_of text span called words t ∷ [])) (h is ∙ ap (λ p. p.help ++ advice) empty)
