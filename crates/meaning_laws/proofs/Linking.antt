-- Tests of libraries: what they leave in LIBS.
use Rattle.std.proofs.Common.{◌≡◌, ℕ, Option, Some, None, List, [], ◌++◌, codes, Bool, true, false, cond, refl, sym, ap, ◌∙◌, ⊎_elim}
use Rattle.std.specs.Prelude.{◌&&◌, not, bytes_eq, unwrap_or}
use Rattle.deftable.specs.Table.{value_of}
use Rattle.meaning.specs.State.{State, How, Goes_on, Completed, ended, as_is}
use Rattle.meaning.specs.Tests.{may_begin, tested}
use Rattle.shellword.specs.declared.part.Part.{Part}
use Rattle.test_forms.specs.Macros.{library_form}
use Rattle.meaning.specs.Forms.{FormTest, form_name, is_linked, is_yes, says_found}
use Rattle.meaning.specs.Entries.{library_test, search_test}
use Rattle.meaning.specs.Rows.{Formed, row_of}
use Rattle.meaning.proofs.Forms.{name_apart}
use Rattle.meaning.specs.Meaning.{found_by}
use Rattle.meaning_laws.specs.Ends.{AtEnds, Breaks}
use Rattle.meaning_laws.specs.Deeds.{is_added}
use Rattle.meaning_laws.specs.Questions.{yes_or_no}
use Rattle.meaning_laws.specs.Linking.{libs_of, put_before, libs_checked, libs_searched, LibsChecked, LibsSearched}
use Rattle.meaning_laws.proofs.Values.{Entries, value_here, value_there, cond_true, cond_false}
use Rattle.meaning_laws.proofs.Endings.{ends_then, ends_ended}
use Rattle.meaning_laws.proofs.LinkLemmas.{put_if, put_other}
use Rattle.meaning_laws.proofs.TestDeeds.{TestWrites, AfterVars, KindEnds, kind_ends}

-- A fact of the ends of a question, from one where it is answered and one where the run ends.
question_ends : (t : FormTest) (st : State) (Q : How → State → Type 0)
    → ((mid : Entries) (now : State) → TestWrites (form_name t.form) st.vars mid → AfterVars (Formed t) mid now.vars → Q (cond (says_found t.form.says (value_of now.vars (form_name t.form))) Goes_on Completed) now)
    → ((how : How) (now : State) → Breaks how → now.vars ≡ st.vars → Q how now) → AtEnds Q (found_by as_is t st yes_or_no)
question_ends t st Q on off =
    let row = row_of (Formed t) st in
    let P = λ (how : How) (now : State). KindEnds (Formed t) st.vars how now.vars in
    ends_then P Q (ended as_is (tested row st)) _
    (ends_ended P P as_is (tested row st) (kind_ends (Formed t) st st (may_begin (value_of st.vars (form_name t.form)) row.ready)) (λ how now h. h))
    (λ now k. let g = k.goes refl in on g.0 now g.1.0 g.1.1)
    (λ how now breaks k. off how now breaks (k.breaks breaks))

-- A test that sets its name alone leaves LIBS.
libs_left : (name : List ℕ) (before mid : Entries) → bytes_eq (codes "LIBS") name ≡ false → TestWrites name before mid → value_of mid (codes "LIBS") ≡ value_of before (codes "LIBS")
libs_left name before mid ne own =
    ⊎_elim
    (λ same. ap (λ l. value_of l (codes "LIBS")) same)
    (λ set. ap (λ l. value_of l (codes "LIBS")) set.1.1 ∙ value_there before name set.0 (codes "LIBS") ne)
    own

put_here : (text : List ℕ) (vars : Entries) → value_of (put_if true text vars) (codes "LIBS") ≡ put_before text (value_of vars (codes "LIBS"))
put_here text vars = value_here vars (codes "LIBS") (text ++ codes " " ++ unwrap_or (value_of vars (codes "LIBS")) [])

-- AC_CHECK_LIB.
checked_put : (library : List ℕ) (adds found : Bool) (vars : Entries)
    → value_of (put_if (adds && found) (codes "-l" ++ library) vars) (codes "LIBS") ≡ libs_checked library adds (cond found Goes_on Completed) (value_of vars (codes "LIBS"))
checked_put library true true vars = put_here (codes "-l" ++ library) vars
checked_put library true false vars = refl
checked_put library false true vars = refl
checked_put library false false vars = refl

checked_off : (library : List ℕ) (adds : Bool) (how : How) (libs : Option (List ℕ)) → Breaks how → libs ≡ libs_checked library adds how libs
checked_off library true Goes_on libs breaks = absurd (breaks refl)
checked_off library _ _ libs breaks = refl

-- With a library that is added, or not.
checked_vars : (library function : List ℕ) (others : Option (List Part)) (adds : Bool) (mid now : Entries) → AfterVars (Formed (library_test library function others adds)) mid now
    → now ≡ put_if (adds && is_yes (value_of mid (form_name (library_form library function adds)))) (codes "-l" ++ library) mid
checked_vars library function others true mid now after = after
checked_vars library function others false mid now after = after

pub libs_are_checked : LibsChecked
libs_are_checked library function others adds st =
    let t = library_test library function others adds in
    let name = form_name t.form in
    question_ends t st (λ how now. libs_of now ≡ libs_checked library adds how (libs_of st))
    (λ mid now own put.
    let after = checked_vars library function others adds mid now.vars put in
    let found = is_yes (value_of mid name) in
    let same : value_of now.vars name ≡ value_of mid name =
    ap (λ l. value_of l name) after ∙ put_other (adds && found) (codes "-l" ++ library) mid name (name_apart t.form) in
    ap (λ l. value_of l (codes "LIBS")) after
    ∙ checked_put library adds found mid
    ∙ ap (λ o. libs_checked library adds (cond (is_yes o) Goes_on Completed) (value_of mid (codes "LIBS"))) (sym same)
    ∙ ap (libs_checked library adds (cond (is_yes (value_of now.vars name)) Goes_on Completed)) (libs_left name st.vars mid refl own))
    (λ how now breaks same. ap (λ l. value_of l (codes "LIBS")) same ∙ checked_off library adds how (libs_of st) breaks)

-- AC_SEARCH_LIBS.
searched_by : (value : List ℕ) (linked none : Bool) (vars : Entries) → bytes_eq value (codes "none required") ≡ none
    → value_of (put_if (linked && not none) value vars) (codes "LIBS") ≡ libs_searched (Some value) (cond linked Goes_on Completed) (value_of vars (codes "LIBS"))
searched_by value true true vars t =
    sym (cond_true (bytes_eq value (codes "none required")) (value_of vars (codes "LIBS")) (put_before value (value_of vars (codes "LIBS"))) t)
searched_by value true false vars f =
    put_here value vars
    ∙ sym (cond_false (bytes_eq value (codes "none required")) (value_of vars (codes "LIBS")) (put_before value (value_of vars (codes "LIBS"))) f)
searched_by value false none vars e = refl

searched_put : (o : Option (List ℕ)) (vars : Entries)
    → value_of (put_if (is_added o) (unwrap_or o []) vars) (codes "LIBS") ≡ libs_searched o (cond (is_linked o) Goes_on Completed) (value_of vars (codes "LIBS"))
searched_put None vars = refl
searched_put (Some value) vars = searched_by value (is_linked (Some value)) (bytes_eq value (codes "none required")) vars refl

searched_off : (o : Option (List ℕ)) (how : How) (libs : Option (List ℕ)) → Breaks how → libs ≡ libs_searched o how libs
searched_off None how libs breaks = refl
searched_off (Some value) Goes_on libs breaks = absurd (breaks refl)
searched_off (Some value) _ libs breaks = refl

pub libs_are_searched : LibsSearched
libs_are_searched function libraries others st =
    let t = search_test function libraries others in
    let name = form_name t.form in
    question_ends t st (λ how now. libs_of now ≡ libs_searched (value_of now.vars name) how (libs_of st))
    (λ mid now own after.
    let o = value_of mid name in
    let same : value_of now.vars name ≡ o =
    ap (λ l. value_of l name) after ∙ put_other (is_added o) (unwrap_or o []) mid name (name_apart t.form) in
    ap (λ l. value_of l (codes "LIBS")) after
    ∙ searched_put o mid
    ∙ ap (λ v. libs_searched v (cond (is_linked v) Goes_on Completed) (value_of mid (codes "LIBS"))) (sym same)
    ∙ ap (libs_searched (value_of now.vars name) (cond (is_linked (value_of now.vars name)) Goes_on Completed)) (libs_left name st.vars mid refl own))
    (λ how now breaks same. ap (λ l. value_of l (codes "LIBS")) same ∙ searched_off (value_of now.vars name) how (libs_of st) breaks)
