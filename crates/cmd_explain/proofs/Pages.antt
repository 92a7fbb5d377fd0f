-- Pages that are said if they are asked for.
use Rattle.std.proofs.Common.{◌≡◌, ℕ, Bool, true, false, List, [], Option, Result, OnErr, OnOk, take, sym, subst, refl}
use Rattle.std.specs.Io.KnownBytes.{Appends}
use Rattle.cmd_call.specs.Lines.{SaysLines}
use Rattle.cmd_call.proofs.Fronts.{told_front}
use Rattle.cmd_call.proofs.Lines.{taken_whole}
use Rattle.cmd_call.proofs.Pages.{says_page}

-- A text was said as a page, as far as the stream takes it.
pub page_said : {E A F : Type 0} (contents : E → Option (List ℕ)) (has_failed : E → Bool) (old new : E) (r : Result A F) (text : List ℕ)
    → OnOk r (Appends (contents old) (contents new) text) → (n : ℕ) × Appends (contents old) (contents new) (take n text)
    → OnErr r (has_failed new ≡ true) → (has_failed new ≡ false → has_failed old ≡ false) → SaysLines contents has_failed old new true []
page_said contents has_failed old new r text whole front cut kept = says_page contents has_failed old new true text refl (record {
  told = told_front (contents old) (contents new) text front;
  whole = taken_whole r (contents old) (contents new) (has_failed new) text whole cut;
  kept = kept;
})

-- Pages were said, since they are asked for.
pub asked_pages : {E : Type 0} (contents : E → Option (List ℕ)) (has_failed : E → Bool) (old new : E) (is_asked : Bool)
    → is_asked ≡ true → SaysLines contents has_failed old new true [] → SaysLines contents has_failed old new is_asked []
asked_pages contents has_failed old new is_asked is pages = subst (λ b. SaysLines contents has_failed old new b []) (sym is) pages
