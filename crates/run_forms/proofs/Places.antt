-- Tries at their places.
use Rattle.std.proofs.Common.{◌≡◌, ℕ, zero, suc, ◌+◌, ◌<◌, ◌^◌, List, [], ◌∷◌, map, refl, sym, ap, ◌∙◌, subst}
use Rattle.std.specs.Prelude.{Option, Some, None, slice_get, option_map, IfSome}
use Rattle.meaning.specs.Asking as asking
use Rattle.test_forms.specs.declared.form.TryForm.{TryForm}
use Rattle.meaning.specs.Forms.{Table, snippet_job}
use Rattle.meaning.specs.Batches.{first_job}
use Rattle.run_forms.specs.declared.attempts.Attempt.{Attempt}
use Rattle.run_forms.specs.Attempts.{IsAt, attempt_of}

mapped_get : {A B : Type 0} (f : A → B) (xs : List A) (i : ℕ) → slice_get (map f xs) i ≡ option_map f (slice_get xs i)
mapped_get f [] zero = refl
mapped_get f [] (suc i) = refl
mapped_get f (x ∷ xs) zero = refl
mapped_get f (x ∷ xs) (suc i) = mapped_get f xs i

pub made_there : (f : TryForm → asking.Attempt) (tries : List TryForm) (place : ℕ) (found : Option TryForm) (from : TryForm) (made : Attempt) → found ≡ Some from → found ≡ slice_get tries place → IfSome found (λ _. place + 1 < 2 ^ 64)
    → attempt_of made ≡ f from → IsAt (map f tries) place (Some made)
made_there f tries place found from made is there room same = record {
  attempt = ap Some same ∙ ap (option_map f) (sym is ∙ there) ∙ sym (mapped_get f tries place);
  room = subst (λ o. IfSome o (λ _. place + 1 < 2 ^ 64)) is room;
}

pub none_there : (f : TryForm → asking.Attempt) (tries : List TryForm) (place : ℕ) → None ≡ slice_get tries place → IsAt (map f tries) place None
none_there f tries place there = record { attempt = ap (option_map f) there ∙ sym (mapped_get f tries place); room = _ }

pub first_none : (tries : List TryForm) (entry : List ℕ) (given : Option (List ℕ)) (number : ℕ) (vars defs : Table) → None ≡ slice_get tries 0 → None ≡ first_job tries entry given number vars defs
first_none [] entry given number vars defs is = refl
first_none (t ∷ more) entry given number vars defs is = cc

pub first_some : (tries : List TryForm) (first : TryForm) (entry : List ℕ) (given : Option (List ℕ)) (number : ℕ) (vars defs : Table) → Some first ≡ slice_get tries 0
    → snippet_job first.snippet entry given number vars defs ≡ first_job tries entry given number vars defs
first_some [] first entry given number vars defs is = cc
first_some (t ∷ more) first entry given number vars defs is = ap (λ (x : TryForm). snippet_job x.snippet entry given number vars defs) (same is)
  where
    same : Some first ≡ Some t → first ≡ t
    same e = cc
