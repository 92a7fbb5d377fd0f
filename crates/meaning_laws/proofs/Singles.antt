-- Forms with one try.
use Rattle.std.proofs.Common.{◌≡◌, ℕ, Bool, true, false, cond, List, [], ◌∷◌, codes, map, refl, ap, ◌∙◌}
use Rattle.std.specs.Prelude.{Some}
use Rattle.std.proofs.Math.Path.{fun_ext}
use Rattle.ac_tree.specs.declared.listed.Listed.TheVariants.{Header, Function, Declaration}
use Rattle.meaning.specs.State.{State, as_is, Goes_on, Ends, Asks, with_variable, with_child}
use Rattle.meaning.specs.Asking.{after_child, compiled, only_reply, same, success}
use Rattle.meaning.specs.Batches.{yes_or_no}
use Rattle.meaning.specs.Tests.{by_attempts, with_value}
use Rattle.meaning_laws.specs.Batched.{EntriesAreSingle, SinglesAreReplied}
use Rattle.meaning.specs.Forms.{attempt_of_try, form_name, value_in}

by_answer : (ends_on : Bool) (value otherwise name : List ℕ) (b : Bool) (now : State) → ends_on ≡ true → value ≡ codes "yes" → otherwise ≡ codes "no"
    → cond (same ends_on b) (Ends Goes_on (with_value name (Some value) now)) (Ends Goes_on (with_value name (Some otherwise) now)) ≡ Ends Goes_on (with_variable name (yes_or_no b) now)
by_answer true value otherwise name true now e y n = ap (λ v. Ends Goes_on (with_variable name v now)) y
by_answer true value otherwise name false now e y n = ap (λ v. Ends Goes_on (with_variable name v now)) n
by_answer false value otherwise name b now e y n = absurd cc

pub replied_are : SinglesAreReplied
replied_are t only job st is asks =
    let form = t.form in
    let name = form_name form in
    ap (λ tries. by_attempts name (map (attempt_of_try form.entry (value_in t.given st) st.vars st.defs) tries) (Some form.otherwise) st) is.one
    ∙ ap (λ j. compiled as_is j st (λ b now. cond (same only.ends_on b) (Ends Goes_on (with_value name (Some only.value) now)) (Ends Goes_on (with_value name (Some form.otherwise) now)))) asks
    ∙ ap (Asks (job ∷ [])) (fun_ext (λ replies. ap (after_child as_is (success (only_reply replies)) (with_child job (only_reply replies) st))
    (fun_ext (λ b. fun_ext (λ now. by_answer only.ends_on only.value form.otherwise name b now is.ends is.yes is.no)))))

pub entries_single : EntriesAreSingle
entries_single Header entry defines = record { only = _; single = record { one = refl; ends = refl; yes = refl; no = refl } }
entries_single Function entry defines = record { only = _; single = record { one = refl; ends = refl; yes = refl; no = refl } }
entries_single Declaration entry defines = record { only = _; single = record { one = refl; ends = refl; yes = refl; no = refl } }
