-- Questions that test: what the answer is.
use Rattle.std.proofs.Common.{◌≡◌, ℕ, Option, Some, None, List, codes, Bool, true, false, cond, refl, sym, ap, ◌∙◌, subst}
use Rattle.std.specs.Prelude.{not, bytes_eq}
use Rattle.deftable.specs.Table.{value_of}
use Rattle.meaning.specs.State.{State, answered, How, Goes_on, Completed, then_run, ended, as_is}
use Rattle.meaning.specs.Tests.{tested}
use Rattle.test_forms.specs.declared.form.Says.{Says}
use Rattle.test_forms.specs.declared.form.Says.TheVariants.{Yes, AllButNo}
use Rattle.test_forms.specs.Form.{TestForm}
use Rattle.meaning.specs.Forms.{form_name, form_used, is_linked, is_yes, says_found}
use Rattle.meaning.specs.Rows.{Formed, row_of}
use Rattle.meaning.proofs.Forms.{name_is_left}
use Rattle.meaning_laws.specs.Ends.{Breaks}
use Rattle.meaning_laws.specs.Cached.{IsUnset, with_cached}
use Rattle.meaning_laws.specs.Questions.{SaysFound, IsAnswer, FoundByValue, FoundByCached}
use Rattle.meaning_laws.proofs.Values.{same_text, apart}
use Rattle.meaning_laws.proofs.Endings.{ends_then, ends_ended}
use Rattle.meaning_laws.proofs.CachedTests.{set_row}
use Rattle.meaning_laws.proofs.Kept.{broken_row_is_unset}

some_is : (v w : List ℕ) → ◌≡◌ {A = Option (List ℕ)} (Some v) (Some w) → v ≡ w
some_is v w e = cc

-- A value that is tested, and what it says.
yes_says : (o : Option (List ℕ)) → is_yes o ≡ true → o ≡ Some (codes "yes")
yes_says None h = cc
yes_says (Some value) h = ap Some (same_text value (codes "yes") h)

else_says : (o : Option (List ℕ)) → is_yes o ≡ false → o ≡ Some (codes "yes") → ⊥
else_says None h e = cc
else_says (Some value) h e = apart value (codes "yes") h (some_is value (codes "yes") e)

abbrev IsLinked : Option (List ℕ) → Type 0
IsLinked o = (text : List ℕ) × ((o ≡ Some text) × (text ≡ codes "no" → ⊥))

not_true : (b : Bool) → not b ≡ true → b ≡ false
not_true true h = cc
not_true false h = refl

not_false : (b : Bool) → not b ≡ false → b ≡ true
not_false true h = refl
not_false false h = cc

linked_says : (o : Option (List ℕ)) → is_linked o ≡ true → IsLinked o
linked_says None h = cc
linked_says (Some value) h = (value, (refl, apart value (codes "no") (not_true (bytes_eq value (codes "no")) h)))

none_says : (o : Option (List ℕ)) → is_linked o ≡ false → IsLinked o → ⊥
none_says None h k = let z : None ≡ Some k.0 = k.1.0 in cc
none_says (Some value) h k =
    k.1.1 (sym (some_is value k.0 k.1.0) ∙ same_text value (codes "no") (not_false (bytes_eq value (codes "no")) h))

found_says : (says : Says) (o : Option (List ℕ)) → says_found says o ≡ true → SaysFound says o
found_says Yes o h = yes_says o h
found_says AllButNo o h = linked_says o h

lost_says : (says : Says) (o : Option (List ℕ)) → says_found says o ≡ false → SaysFound says o → ⊥
lost_says Yes o h e = else_says o h e
lost_says AllButNo o h e = none_says o h e

-- A name that is unset says that nothing was found.
unset_says : (says : Says) → SaysFound says None → ⊥
unset_says Yes e = else_says None refl e
unset_says AllButNo e = none_says None refl e

-- The answer, given what the value of the name says.
answer_is : (form : TestForm) (now : State) (b : Bool) → says_found form.says (value_of now.vars (form_name form)) ≡ b → IsAnswer form (cond b Goes_on Completed) now
answer_is form now true t = record { yes = λ z. found_says form.says (value_of now.vars (form_name form)) t; no = λ z. cc }
answer_is form now false f = record { yes = λ z. cc; no = λ z. lost_says form.says (value_of now.vars (form_name form)) f }

pub found_by_value : FoundByValue
found_by_value t st =
    let name = form_name t.form in
    let unset = λ (how : How) (now : State). Breaks how → IsUnset name now.vars in
    let run = tested (row_of (Formed t) st) st in
    ends_then unset (λ how now. IsAnswer t.form how now) (ended as_is run) _
    (ends_ended unset unset as_is run (broken_row_is_unset (Formed t) st) (λ how now h. h))
    (λ now h. answer_is t.form now (says_found t.form.says (value_of now.vars name)) refl)
    (λ how now breaks h. record { yes = λ z. absurd (breaks z); no = λ z y. unset_says t.form.says (subst (SaysFound t.form.says) (h breaks) y) })

pub found_by_cached : FoundByCached
found_by_cached early t value st go spares e =
    let name = form_name t.form in
    let row = row_of (Formed t) st in
    let go_on = λ (now : State). go (answered (says_found t.form.says (value_of now.vars name))) now in
    let shown = with_cached row.test value st in
    let now = form_used t.form (Some value) shown in
    ap (λ run. then_run (ended early run) go_on) (set_row row value st e)
    ∙ ap go_on (spares now)
    ∙ ap (λ o. go (answered (says_found t.form.says o)) now) (name_is_left t.form (Some value) shown ∙ e)
