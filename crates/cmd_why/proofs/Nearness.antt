-- One more among the checks that are nearest, and what is printed of those that are chosen.
use Rattle.std.proofs.Common.{◌≡◌, ℕ, List, [], ◌∷◌, ◌++◌, map, take, drop, ap, sym, subst, refl, ◌∙◌}
use Rattle.std.specs.Prelude.{OnOk, Result}
use Rattle.std.proofs.lemmas.List.{map-append, take-map, drop-map}
use Rattle.cmd_why.specs.Lines.{Line}
use Rattle.cmd_why.specs.declared.seen.Seen.{Seen}
use Rattle.cmd_why.specs.Shown.{chosen, matched_text, text_for}
use Rattle.cmd_why.specs.Views.{check_seen, near_seen}
use Rattle.cmd_why.specs.declared.lines.Check.{Check}
use Rattle.cmd_why.specs.declared.nearest.Near.{Near as Lent}

mapped : (old : List Lent) (near : Lent) (place : ℕ)
    → map near_seen (take place old ++ near ∷ drop place old) ≡ take place (map near_seen old) ++ near_seen near ∷ drop place (map near_seen old)
mapped old near place = rw (map-append near_seen (take place old) (near ∷ drop place old), take-map near_seen place old, drop-map near_seen place old) refl

pub inserted : (old new trimmed : List Lent) (near : Lent) (place : ℕ) → new ≡ take place old ++ near ∷ drop place old → trimmed ≡ take 5 new
    → map near_seen trimmed ≡ take 5 (take place (map near_seen old) ++ near_seen near ∷ drop place (map near_seen old))
inserted old new trimmed near place made cut =
    ap (λ list. map near_seen list) cut ∙ (sym (take-map near_seen 5 new) ∙ ap (λ list. take 5 (map near_seen list)) made ∙ ap (λ list. take 5 list) (mapped old near place))

-- The messages of checks.
messages_are : (whole : List Check) → map (λ check. check.message) (map check_seen whole) ≡ map (λ check. check.message.now) whole
messages_are [] = refl
messages_are (check ∷ more) = ap (λ list. check.message.now ∷ list) (messages_are more)

-- What is printed of the checks that are taken.
pub matched_is : {A E : Type 0} (r : Result A E) (new old word : List ℕ) (seen : Seen) (log : List Line) (whole items taken : List Check) → taken ≡ items → map check_seen items ≡ chosen word (map check_seen whole)
    → OnOk r (new ≡ old ++ text_for seen log word (map (λ check. check.message.now) whole) (map check_seen taken))
    → OnOk r (new ≡ old ++ matched_text seen log word (map check_seen whole))
unfolding matched_text
matched_is r new old word seen log whole items taken lent is put =
    let same : text_for seen log word (map (λ check. check.message.now) whole) (map check_seen taken) ≡ matched_text seen log word (map check_seen whole) =
    ap (λ list. text_for seen log word (map (λ check. check.message.now) whole) list) (ap (λ list. map check_seen list) lent ∙ is)
    ∙ ap (λ list. text_for seen log word list (chosen word (map check_seen whole))) (sym (messages_are whole)) in
    subst (λ text. OnOk r (new ≡ old ++ text)) same put
