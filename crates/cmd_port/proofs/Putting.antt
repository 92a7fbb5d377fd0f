-- Lines that are put for templates.
use Rattle.std.proofs.Common.{◌≡◌, Bool, true, false, List, ℕ, Result, Ok, Err, sym, subst, ◌∙◌, true≢false}
use Rattle.std.specs.Prelude.{IfOk, IsTrue, ◌↔◌}
use Rattle.lint_errors.specs.Errors.{IsAccepted}
use Rattle.lint_sources.specs.declared.wants.Wanted.{Wanted}
use Rattle.cmd_port.specs.Served.{IsServed, with_wanted}
use Rattle.cmd_port.specs.Served as specs

-- The lines that are wanted are taken, if the text is accepted with them.
pub served_taken : (all b : Bool) (wanted : Wanted) (text next slice : List ℕ) → next ≡ with_wanted all wanted text → slice ≡ next → IsTrue b ↔ IsAccepted slice → b ≡ true
    → IsServed all wanted text next
served_taken all b wanted text next slice is lent accepted seen =
    subst (IsServed all wanted text) (sym is) (specs.IsServed.taken (subst IsAccepted (lent ∙ is) (accepted.0 seen)))

-- Otherwise the text stays.
pub served_stays : {V E : Type 0} (all b : Bool) (items : V → List ℕ) (wanted : Wanted) (text next slice : List ℕ) (r : Result V E) → next ≡ with_wanted all wanted text → slice ≡ next
    → IsTrue b ↔ IsAccepted slice → b ≡ false → IfOk r (λ v. items v ≡ text) → IfOk r (λ v. IsServed all wanted text (items v))
served_stays all b items wanted text next slice (Ok v) is lent accepted seen same =
    subst (IsServed all wanted text) (sym same) (specs.IsServed.stays (λ taken. true≢false (sym (accepted.1 (subst IsAccepted (sym (lent ∙ is)) taken)) ∙ seen)))
served_stays all b items wanted text next slice (Err e) is lent accepted seen same = tt
