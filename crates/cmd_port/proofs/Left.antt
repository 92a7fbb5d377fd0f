-- A text with a comment about what is left.
use Rattle.std.proofs.Common.{◌≡◌, ◌⊎◌, inl, inr, ℕ, List, [], ◌∷◌, ◌++◌, ◌-◌, length, Bool, Result, Ok, Err, sym, subst, ap, ◌∙◌, refl, true, append_assoc, append-nil, slice_range, arith}
use Rattle.std.specs.Prelude.{IfOk, IsTrue}
use Rattle.std.specs.Global.{Vec}
use Rattle.std.proofs.lemmas.List.{take_all}
use Rattle.text_cut.specs.Cuts.{parts, parts_by}
use Rattle.cmd_port.specs.Ported.{IsCommented, HasLeft, comment, comment_line, is_left, is_line_start, unsaid}
use Rattle.cmd_port.specs.Ported as specs

-- A comment may be before the whole.
pub front_put : (text words : List ℕ) (at : ℕ) (out : List ℕ) → IsCommented text at out → IsCommented text at (comment words ++ out)
front_put text words next new specs.IsCommented.begun = subst (IsCommented text 0) (sym (append-nil (comment words))) (specs.IsCommented.noted words specs.IsCommented.begun refl)
front_put text words next new (specs.IsCommented.copied {at} {out} to before from within) =
    subst (IsCommented text to) (append_assoc (comment words) out (slice_range text at to)) (specs.IsCommented.copied to (front_put text words at out before) from within)
front_put text words next new (specs.IsCommented.noted {at} {out} more before is) =
    subst (IsCommented text at) (append_assoc (comment words) out (comment more)) (specs.IsCommented.noted more (front_put text words at out before) is)

pub unsaid_first : (text : List ℕ) → is_left (comment unsaid ++ text) ≡ true
unfolding comment comment_line unsaid parts parts_by
unsaid_first text = refl

pub whole_left : (text out : List ℕ) → out ≡ comment unsaid ++ text → HasLeft out
whole_left text out is =
    let whole : slice_range out 0 (length out) ≡ out = take_all (length out - 0) out (omega arith) in
    record { at = 0; is_line = refl; is_comment = ap is_left (whole ∙ is) ∙ unsaid_first text }

pub left_at : (text : List ℕ) (at : ℕ) (b : Bool) → is_line_start text at ≡ true → b ≡ is_left (slice_range text at (length text)) → IsTrue b → HasLeft text
left_at text at b line is holds = record { at = at; is_line = line; is_comment = sym is ∙ holds }

pub lent_left : (b : Bool) (slice text : List ℕ) → slice ≡ text → (IsTrue b → HasLeft slice) → b ≡ true → HasLeft text
lent_left b slice text lent has is = subst HasLeft lent (has is)

pub stays : (text more : List ℕ) → (text ≡ text) ⊎ (text ≡ more)
stays text more = inl refl

pub front_left : {E : Type 0} (r : Result (Vec ℕ) E) (text : List ℕ) → IfOk r (λ v. v.items ≡ comment unsaid ++ text) → IfOk r (λ v. HasLeft v.items)
front_left (Ok v) text is = whole_left text v.items is
front_left (Err e) text is = tt

pub front_kept : {E : Type 0} (r : Result (Vec ℕ) E) (slice text : List ℕ) → slice ≡ text → IfOk r (λ v. v.items ≡ comment unsaid ++ slice)
    → IfOk r (λ v. (v.items ≡ text) ⊎ (v.items ≡ comment unsaid ++ text))
front_kept (Ok v) slice text lent is = inr (subst (λ t. v.items ≡ comment unsaid ++ t) lent is)
front_kept (Err e) slice text lent is = tt

pub kept_commented : {E : Type 0} (r : Result (Vec ℕ) E) (text mid : List ℕ) → IsCommented text (length text) mid
    → IfOk r (λ v. (v.items ≡ mid) ⊎ (v.items ≡ comment unsaid ++ mid)) → IfOk r (λ v. IsCommented text (length text) v.items)
kept_commented (Ok v) text mid before (inl same) = subst (IsCommented text (length text)) (sym same) before
kept_commented (Ok v) text mid before (inr more) = subst (IsCommented text (length text)) (sym more) (front_put text unsaid (length text) mid before)
kept_commented (Err e) text mid before is = tt
