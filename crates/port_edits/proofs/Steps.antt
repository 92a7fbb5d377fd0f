-- Laws of edits, and of the passes that are made of them.
use Rattle.std.proofs.Common.{◌≡◌, ℕ, suc, ◌+◌, ◌<◌, ◌≤◌, Bool, true, false, cond, ◌&&◌, List, [], ◌∷◌, ◌++◌, length, map, drop, drop-cons, get_or, add-one, append_assoc, slice_range, sym, ◌∙◌, ap, subst, refl, arith, Result, Ok, Err, OnOk}
use Rattle.std.specs.Prelude.{nat_le}
use Rattle.std.proofs.Math.ListN.{drop_of_length-le}
use Rattle.std.proofs.lemmas.Bool.{and_parts, and_from, leb-true, le-leb}
use Rattle.port_edits.specs.declared.edit.Edit.{Edit}
use Rattle.port_edits.specs.Edits.{Change, change_of, fits, kept, AreApart, with_changes, IsStep}
use Rattle.port_edits.specs.Edits as specs
use Rattle.port_edits.specs.Passes.{Copies, Takes}

-- What it says that a change fits.
pub fits_parts : (text : List ℕ) (at : ℕ) (change : Change) → fits text at change ≡ true → (at ≤ change.start) × (change.start ≤ change.end) × (change.end ≤ length text)
fits_parts text at change is =
    let a = and_parts (nat_le at change.start && nat_le change.start change.end) (nat_le change.end (length text)) is in
    let b = and_parts (nat_le at change.start) (nat_le change.start change.end) a.0 in
    (leb-true _ _ b.0, leb-true _ _ b.1, leb-true _ _ a.1)

fits_from : (text : List ℕ) (at : ℕ) (change : Change) → at ≤ change.start → change.start ≤ change.end → change.end ≤ length text → fits text at change ≡ true
fits_from text at change from order to = and_from _ _ (and_from _ _ (le-leb _ _ from) (le-leb _ _ order)) (le-leb _ _ to)

kept_by : (text : List ℕ) (at : ℕ) (change : Change) (changes : List Change) (b : Bool) → fits text at change ≡ b
    → ((change.end ≤ length text) → AreApart text change.end (kept text change.end changes)) → AreApart text at (kept text at changes)
    → AreApart text at (cond b (change ∷ kept text change.end changes) (kept text at changes))
kept_by text at change changes true is after left = let p = fits_parts text at change is in specs.AreApart.next change (kept text change.end changes) p.0 p.1 (after p.2)
kept_by text at change changes false is after left = left

pub kept_apart : (text : List ℕ) (at : ℕ) (changes : List Change) → at ≤ length text → AreApart text at (kept text at changes)
unfolding kept
kept_apart text at [] within = specs.AreApart.none within
kept_apart text at (change ∷ changes) within =
    kept_by text at change changes (fits text at change) refl (λ to. kept_apart text change.end changes to) (kept_apart text at changes within)

-- An offset from which changes are apart is in the text.
apart_within : (text : List ℕ) (at : ℕ) (changes : List Change) → AreApart text at changes → at ≤ length text
apart_within text at [] (specs.AreApart.none within) = within
apart_within text at (change ∷ changes) (specs.AreApart.next _ _ from order rest) = let to = apart_within text change.end changes rest in omega (arith, from, order, to)

pub apart_kept : (text : List ℕ) (at : ℕ) (changes : List Change) → AreApart text at changes → kept text at changes ≡ changes
unfolding kept
apart_kept text at [] are = refl
apart_kept text at (change ∷ changes) (specs.AreApart.next _ _ from order rest) =
    let fit = fits_from text at change from order (apart_within text change.end changes rest) in
    ap (λ b. cond b (change ∷ kept text change.end changes) (kept text at changes)) fit ∙ ap (λ l. change ∷ l) (apart_kept text change.end changes rest)

-- A step leaves what will be written as it is.
pub stepped : (text : List ℕ) (at : ℕ) (out : List ℕ) (change : Change) (changes : List Change) (new_at : ℕ) (new : List ℕ) → IsStep text at out change new_at new
    → new ++ with_changes text new_at (kept text new_at changes) ≡ out ++ with_changes text at (kept text at (change ∷ changes))
unfolding kept with_changes
stepped text at out change changes new_at new (specs.IsStep.made fit) =
    let w = with_changes text change.end (kept text change.end changes) in
    let s = slice_range text at change.start in
    append_assoc (out ++ s) change.put w ∙ append_assoc out s (change.put ++ w) ∙ ap (λ b. out ++ with_changes text at (cond b (change ∷ kept text change.end changes) (kept text at changes))) (sym fit)
stepped text at out change changes new_at new (specs.IsStep.left fit) =
    ap (λ b. out ++ with_changes text at (cond b (change ∷ kept text change.end changes) (kept text at changes))) (sym fit)

-- What is read stays within the text.
pub step_within : (text : List ℕ) (at : ℕ) (out : List ℕ) (change : Change) (new_at : ℕ) (new : List ℕ) → IsStep text at out change new_at new → at ≤ length text → new_at ≤ length text
step_within text at out change new_at new (specs.IsStep.made fit) within = (fits_parts text at change fit).2
step_within text at out change new_at new (specs.IsStep.left fit) within = within

-- A pass that an edit goes on with goes on.
pub step_passes : (text : List ℕ) (Pass : ℕ → List ℕ → Type 0) (at : ℕ) (out : List ℕ) (change : Change) (new_at : ℕ) (new : List ℕ)
    → Copies text Pass → Takes Pass change.start change.end change.put → Pass at out → IsStep text at out change new_at new → Pass new_at new
step_passes text Pass at out change new_at new copies takes before (specs.IsStep.made fit) =
    let p = fits_parts text at change fit in
    takes.taken (out ++ slice_range text at change.start) (copies.copied at change.start out before p.0 (omega (arith, p.1, p.2)))
step_passes text Pass at out change new_at new copies takes before (specs.IsStep.left fit) = before

-- A change that was made is a step.
pub made_step : (text : List ℕ) (at : ℕ) (out : List ℕ) (change : Change) (put : List ℕ) (new_at : ℕ) (new : List ℕ) → fits text at change ≡ true → put ≡ change.put
    → (new_at ≡ change.end) × (new ≡ (out ++ slice_range text at change.start) ++ put) → IsStep text at out change new_at new
made_step text at out change put new_at new fit is (at_is, new_is) =
    subst (λ a. IsStep text at out change a new) (sym at_is)
    (subst (IsStep text at out change change.end) (sym (new_is ∙ ap (λ p. (out ++ slice_range text at change.start) ++ p) is)) (specs.IsStep.made fit))

-- One turn of the loop over edits.
pub turn : (text : List ℕ) (edits : List Edit) (i : ℕ) (edit : Edit) (at : ℕ) (out : List ℕ) (new_at : ℕ) (new whole : List ℕ)
    → (at ≤ length text) × (out ++ with_changes text at (kept text at (map change_of (drop i edits))) ≡ whole) → i < length edits → edit ≡ get_or edits i edit
    → IsStep text at out (change_of edit) new_at new
    → (new_at ≤ length text) × (new ++ with_changes text new_at (kept text new_at (map change_of (drop (i + 1) edits))) ≡ whole)
turn text edits i edit at out new_at new whole (within, is) less here step =
    let rest = map change_of (drop (i + 1) edits) in
    let front : map change_of (drop i edits) ≡ change_of edit ∷ rest =
    ap (map change_of) (drop-cons edits i edit less ∙ ap (λ e. e ∷ drop (suc i) edits) (sym here) ∙ ap (λ n. edit ∷ drop n edits) (sym (add-one i))) in (
      step_within text at out (change_of edit) new_at new step within,
      stepped text at out (change_of edit) rest new_at new step ∙ ap (λ cs. out ++ with_changes text at (kept text at cs)) (sym front) ∙ is,
    )

-- The end of the loop.
pub ended : (text : List ℕ) (edits : List Edit) (i at : ℕ) (out whole : List ℕ)
    → (at ≤ length text) × (out ++ with_changes text at (kept text at (map change_of (drop i edits))) ≡ whole) → length edits ≤ i
    → (at ≤ length text) × (out ++ slice_range text at (length text) ≡ whole)
unfolding kept with_changes
ended text edits i at out whole (within, is) past =
    let none : map change_of (drop i edits) ≡ [] = ap (map change_of) (drop_of_length-le edits past) in
    (within, ap (λ cs. out ++ with_changes text at (kept text at cs)) (sym none) ∙ is)

-- What follows from what an `Ok` says holds of the `Ok`.
pub on_ok : {T E P Q : Type 0} → (P → Q) → (r : Result T E) → OnOk r P → OnOk r Q
on_ok f (Ok v) p = f p
on_ok f (Err e) p = tt
