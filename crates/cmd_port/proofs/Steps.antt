-- What one step of writing comments makes.
use Rattle.std.proofs.Common.{◌≡◌, ◌⊎◌, inl, inr, ℕ, ◌≤◌, List, ◌++◌, length, Bool, Result, Ok, Err, OnOk, slice_range, sym, refl, subst, ◌∙◌, Option, Some, None, true, false, arith}
use Rattle.std.specs.Prelude.{IfSome, IfOk, MatchOption}
use Rattle.cmd_port.specs.Ported.{HasLeft, IsCommented, IsKept, IsKeptAs, IsMoved, IsPorted, IsPrinted, IsStep, IsTitled, is_line_start, comment}
use Rattle.cmd_port.specs.Ported as specs
use Rattle.cmd_port.specs.Asked.{Package}
use Rattle.cmd_port.specs.declared.whole.Ported.{Ported}
use Rattle.lint_errors.specs.Errors.{IsAccepted}
use Rattle.port_idioms.specs.declared.idioms.Idioms.{Idioms}

pub commented_bound : (text : List ℕ) (at : ℕ) (out : List ℕ) → IsCommented text at out → at ≤ length text
commented_bound text at out specs.IsCommented.begun = omega arith
commented_bound text at out (specs.IsCommented.copied next before from to) = to
commented_bound text at out (specs.IsCommented.noted words before is) = commented_bound text _ _ before

-- What follows from what an `Ok` says holds of the `Ok`.
pub on_ok : {T E P Q : Type 0} → (P → Q) → (r : Result T E) → OnOk r P → OnOk r Q
on_ok f (Ok v) p = f p
on_ok f (Err e) p = tt

pub comment_copied : (text : List ℕ) (at next : ℕ) (out new : List ℕ) (new_at : ℕ) → IsCommented text at out → at ≤ next → next ≤ length text
    → (new_at ≡ next) × (new ≡ out ++ slice_range text at next) → IsCommented text next new
comment_copied text at next out new new_at before from to (at_is, new_is) = subst (IsCommented text next) (sym new_is) (specs.IsCommented.copied next before from to)

pub words_put : (text : List ℕ) (at : ℕ) (out new words : List ℕ) → IsCommented text at out → is_line_start text at ≡ true
    → new ≡ out ++ comment words → IsCommented text at new
words_put text at out new words before is more = subst (IsCommented text at) (sym more) (specs.IsCommented.noted words before is)

-- A source that acrun accepts becomes itself.
pub unchanged_kept : {E : Type 0} (naming : Option Package) (r : Result (Option Ported) E) (text : List ℕ) → IsAccepted text
    → IfOk r (λ o. MatchOption o ⊥ (λ p. (p.text ≡ text) × (p.has_comments ≡ false))) → IfOk r (λ o. MatchOption o ⊥ (λ p. IsKeptAs naming text p.has_comments p.text))
unchanged_kept naming (Ok (Some p)) text accepted (same, none) =
    record { mid = text; kept = inl refl; printed = subst (λ b. IsPrinted text b p.text) (sym none) (same, accepted) }
unchanged_kept naming (Ok None) text accepted m = m
unchanged_kept naming (Err e) text accepted m = tt

-- Or AC_INIT alone changes in it.
pub retitled_kept : {E : Type 0} (naming : Option Package) (r : Result (Option Ported) E) (text mid : List ℕ) → IsTitled naming text mid
    → IfOk r (λ o. MatchOption o ⊥ (λ p. IsPrinted mid p.has_comments p.text)) → IfOk r (λ o. MatchOption o ⊥ (λ p. IsKeptAs naming text p.has_comments p.text))
retitled_kept naming (Ok (Some p)) text mid titled printed = record { mid = mid; kept = inr titled; printed = printed }
retitled_kept naming (Ok None) text mid titled m = m
retitled_kept naming (Err e) text mid titled m = tt

kept_moved : (idioms : Idioms) (naming : Option Package) (text mid : List ℕ) → IsKept naming text mid → IsMoved idioms naming text mid
kept_moved idioms naming text mid (inl same) = subst (IsMoved idioms naming text) (sym same) specs.IsMoved.same
kept_moved idioms naming text mid (inr titled) = specs.IsMoved.stepped specs.IsMoved.same (specs.IsStep.titled titled)

pub kept_ported : {E : Type 0} (idioms : Idioms) (naming : Option Package) (r : Result (Option Ported) E) (text : List ℕ)
    → IfOk r (λ o. MatchOption o ⊥ (λ p. IsKeptAs naming text p.has_comments p.text)) → IfOk r (λ o. IfSome o (λ p. IsPorted idioms naming text p.has_comments p.text))
kept_ported idioms naming (Ok (Some p)) text kept = record { mid = kept.mid; rewritten = kept_moved idioms naming text kept.mid kept.kept; printed = kept.printed }
kept_ported idioms naming (Ok None) text kept = tt
kept_ported idioms naming (Err e) text kept = tt

-- If nothing is stated, it is printed as it is.
same_kept : (naming : Option Package) (text mid : List ℕ) → naming ≡ None → IsKept naming text mid → mid ≡ text
same_kept naming text mid none (inl same) = same
same_kept naming text mid none (inr titled) = absurd (subst (λ n. IsTitled n text mid) none titled)

same_printed : (text mid out : List ℕ) (has : Bool) → IsAccepted text → mid ≡ text → IsPrinted mid has out → (out ≡ text) × (has ≡ false)
same_printed text mid out false accepted same (is, of) = (is ∙ same, refl)
same_printed text mid out true accepted same (commented, refused, left) = absurd (refused (subst IsAccepted (sym same) accepted))

pub kept_stays : {E : Type 0} (naming : Option Package) (r : Result (Option Ported) E) (text : List ℕ) → IsAccepted text → naming ≡ None
    → IfOk r (λ o. MatchOption o ⊥ (λ p. IsKeptAs naming text p.has_comments p.text)) → IfOk r (λ o. MatchOption o ⊥ (λ p. (p.text ≡ text) × (p.has_comments ≡ false)))
kept_stays naming (Ok (Some p)) text accepted none kept = same_printed text kept.mid p.text p.has_comments accepted (same_kept naming text kept.mid none kept.kept) kept.printed
kept_stays naming (Ok None) text accepted none kept = kept
kept_stays naming (Err e) text accepted none kept = tt

pub step_more : {V : Type 0} (idioms : Idioms) (naming : Option Package) (items : V → List ℕ) (text mid now : List ℕ) (o : Option V) (next : V) → o ≡ Some next → now ≡ mid
    → IfSome o (λ v. IsStep idioms naming now (items v)) → IsMoved idioms naming text mid → IsMoved idioms naming text (items next)
step_more idioms naming items text mid now o next is same step before =
    specs.IsMoved.stepped before (subst (λ m. IsStep idioms naming m (items next)) same (subst (λ o. IfSome o (λ v. IsStep idioms naming now (items v))) is step))

-- A text with comments is printed.
pub commented_printed : {E : Type 0} (r : Result Ported E) (slice text : List ℕ) → slice ≡ text → (IsAccepted text → ⊥) → IfOk r (λ p. IsCommented slice (length slice) p.text)
    → IfOk r (λ p. HasLeft p.text) → IfOk r (λ p. p.has_comments ≡ true) → IfOk r (λ p. IsPrinted text p.has_comments p.text)
commented_printed (Ok p) slice text lent refused commented left reported =
    subst (λ b. IsPrinted text b p.text) (sym reported) (subst (λ t. IsCommented t (length t) p.text) lent commented, refused, left)
commented_printed (Err e) slice text lent refused commented left reported = tt
