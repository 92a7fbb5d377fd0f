-- Each share has the jobs of its own test.
use Rattle.std.proofs.Common.{◌≡◌, ℕ, suc, List, [], ◌∷◌, ◌++◌, true, false, cond, Option, Some, None, inl, inr, refl, sym, ap, ◌∙◌, subst, append_assoc}
use Rattle.std.specs.Prelude.{is_some}
use Rattle.std.proofs.lemmas.List.{append-nil}
use Rattle.crew_jobs.specs.declared.job.Job.{Job}
use Rattle.crew_trait.specs.declared.reply.Reply.{Reply}
use Rattle.deftable.specs.Table.{value_of}
use Rattle.shellword.specs.declared.part.Part.{Part}
use Rattle.shellword.specs.Value.{word_value}
use Rattle.ac_tree.specs.declared.listed.Listed.{Listed}
use Rattle.ac_tree.specs.declared.statement.Declares.{Declares}
use Rattle.ac_tree.specs.declared.statement.Declares.TheVariants as declares
use Rattle.ac_tree.specs.declared.statement.Effect.{Effect}
use Rattle.ac_tree.specs.declared.statement.Effect.TheVariants as effects
use Rattle.ac_tree.specs.declared.statement.Effect.TheVariants.{Nothing, Assign, Search, Searches}
use Rattle.ac_tree.specs.declared.statement.Question.{Question}
use Rattle.ac_tree.specs.declared.statement.Question.TheVariants as questions
use Rattle.ac_tree.specs.declared.statement.Question.TheVariants.{Given, Tries, Checks, ChecksEach}
use Rattle.ac_tree.specs.declared.tree.Subject.{Subject}
use Rattle.ac_tree.specs.declared.tree.Subject.TheVariants as subjects
use Rattle.ac_tree.specs.Commands.{AssignsAlone, TriesAlone, AreCommands, AreCommandsIn, HasCommands, HasCommandsIn}
use Rattle.ac_tree.specs.Resumable.{Among}
use Rattle.ac_tree.specs.Script.{Script, Done, Then, Choice, Check, Cases, No_case, Case}
use Rattle.ac_tree.specs.TestNames.{program_name, search_name, sought_name}
use Rattle.ac_tree.specs.Uses.{uses_asked}
use Rattle.meaning.specs.State.{State, Scope, no_choice, about, Run, ended, as_is}
use Rattle.meaning.specs.Tests.{checking, tested}
use Rattle.meaning.specs.Rows.{row_of, Formed}
use Rattle.meaning.specs.Forms.{FormTest, form_name}
use Rattle.meaning.specs.Entries.{entry_test, sought_test, library_test, search_test, tests_of}
use Rattle.meaning.specs.Batches.{job_for, asking}
use Rattle.meaning.specs.Meaning.{effect, after_question, found_by, after_subject, rounds_of, in_turn, is_taken, meaning, chosen}
use Rattle.meaning_laws.specs.Questions.{yes_or_no}
use Rattle.meaning_laws.proofs.CommandLemmas.{one_round}
use Rattle.meaning_resumption.specs.Joint.{test_in, checks}
use Rattle.meaning_resumption.proofs.Names.{entry_named, sought_named}
use Rattle.meaning_resumption.specs.Asked.{Share, jobs_asked, made, use_shares, entry_shares, effect_shares, shares_after, shares_answered, subject_shares, turn_shares, owned, shares, case_shares, shared_jobs, Asker, a_statement, a_question, a_check, IsAskedIn, Has, HasWithin, HasItsJobs, of_statement, of_question, of_entry, of_check, of_try, SharesHaveTheirJobs}
use Rattle.meaning_resumption.proofs.EachShare.{Each, each_both, each_either, each_after, each_answered, Always, always}
use Rattle.meaning_resumption.proofs.Shares.{shared_owned, asked_ended, asked_until, check_covered, shares_are_jobs}

their_made : (whole : Script) (o : Option (List ℕ)) (share : Share) → HasItsJobs whole share → Each (HasItsJobs whole) (made o (share ∷ []))
their_made whole None share h = (h, tt)
their_made whole (Some value) share h = tt

-- ---- statements

their_entry : (whole : Script) (test : FormTest) (job : Option Job) (tail : List (FormTest × Option Job))
    → ((own : Job) → job ≡ Some own → HasItsJobs whole (record { name = Some (form_name test.form); jobs = own ∷ [] }))
    → Each (HasItsJobs whole) (entry_shares tail) → Each (HasItsJobs whole) (entry_shares ((test, job) ∷ tail))
their_entry whole test None tail own h = h
their_entry whole test (Some job) tail own h = (own job refl, h)

their_entries : (whole : Script) (d : Declares) (listed : Listed) (all : List (List ℕ)) (includes : Option (List Part)) → Has (a_statement d (effects.Batch listed all includes)) whole
    → (entries : List (List ℕ)) → ((entry : List ℕ) → Among entry entries → Among entry all)
    → (place : ℕ) (earlier : List (List ℕ)) (st : State) → Each (HasItsJobs whole) (entry_shares (asking place earlier (tests_of listed entries includes) st))
their_entries whole d listed all includes there [] among place earlier st = tt
their_entries whole d listed all includes there (entry ∷ more) among place earlier st =
    let test = entry_test listed includes entry in
    let seen = form_name test.form ∷ earlier in
    their_entry whole test (job_for test place earlier st) (asking (suc place) seen (tests_of listed more includes) st)
    (λ own is. subst (λ name. HasItsJobs whole (record { name = Some name; jobs = own ∷ [] })) (sym (entry_named listed entry true))
    (of_entry whole d listed all includes place earlier entry st own there (among entry (inl refl)) is))
    (their_entries whole d listed all includes there more (λ other a. among other (inr a)) (suc place) seen st)

their_effect : (whole : Script) (d : Declares) (e : Effect) → Has (a_statement d e) whole → (st : State) (rs : List Reply) → Each (HasItsJobs whole) (effect_shares d e st rs)
their_effect whole d (effects.Batch listed entries includes) there st rs =
    their_entries whole d listed entries includes there entries (λ entry a. a) 1 [] st
their_effect whole d (Search variable program value otherwise) there st rs =
    let name = search_name value variable in
    their_made whole (value_of st.vars name) _ (of_statement whole d (Search variable program value otherwise) st rs name there refl)
their_effect whole d (Searches variable programs otherwise) there st rs =
    let name = program_name variable in
    their_made whole (value_of st.vars name) _ (of_statement whole d (Searches variable programs otherwise) st rs name there refl)
their_effect whole (declares.Variable name) Nothing there st rs = tt
their_effect whole _ Nothing there st rs = tt
their_effect whole d _ there st rs = tt

-- ---- questions

found_jobs : (t : FormTest) (st : State) (rs : List Reply) → jobs_asked (tested (row_of (Formed t) st) st) rs ≡ jobs_asked (found_by as_is t st yes_or_no) rs
found_jobs t st rs =
    let run = tested (row_of (Formed t) st) st in
    sym (asked_until (ended as_is run) _ rs (λ now. tt) ∙ asked_ended as_is run rs)

their_test : (whole : Script) (q : Question) (t : FormTest) (name : List ℕ) → Has (a_question q) whole → (st : State) (rs : List Reply) → test_in q ≡ Some t → form_name t.form ≡ name
    → Each (HasItsJobs whole) (made (value_of st.vars name) (record { name = Some name; jobs = jobs_asked (found_by as_is t st yes_or_no) rs } ∷ []))
their_test whole q t name there st rs e is =
    their_made whole (value_of st.vars name) _
    (subst (λ l. HasItsJobs whole (record { name = Some name; jobs = l })) (found_jobs t st rs)
    (subst (λ n. HasItsJobs whole (record { name = Some n; jobs = jobs_asked (tested (row_of (Formed t) st) st) rs })) is (of_question whole q t st rs there e)))

their_question : (whole : Script) (q : Question) → Has (a_question q) whole → (st : State) (rs : List Reply)
    → Each (HasItsJobs whole) (use_shares (uses_asked q) st (after_question as_is q st yes_or_no) rs)
their_question whole (Given kind variable) there st rs = tt
their_question whole (Tries kind program) there st rs = (of_try whole kind program st rs there, tt)
their_question whole (Checks sought entry includes) there st rs =
    their_test whole (Checks sought entry includes) (sought_test sought entry includes false) (sought_name sought entry) there st rs refl (sought_named sought entry false)
their_question whole (ChecksEach sought [] includes) there st rs = tt
their_question whole (ChecksEach sought (entry ∷ more) includes) there st rs =
    their_test whole (ChecksEach sought (entry ∷ more) includes) (sought_test sought entry includes true) (sought_name sought entry) there st rs refl (sought_named sought entry true)
their_question whole (questions.Library library function others adds) there st rs =
    their_test whole (questions.Library library function others adds) (library_test library function others adds) _ there st rs refl refl
their_question whole (questions.Libraries function libraries others) there st rs =
    their_test whole (questions.Libraries function libraries others) (search_test function libraries others) _ there st rs refl refl

their_subject : (whole : Script) (r : Subject) → ((q : Question) → r ≡ subjects.Asked q → Has (a_question q) whole) → (st : State) (rs : List Reply) (rest : Scope → State → List Reply → List Share)
    → ((c : Scope) (now : State) (left : List Reply) → Each (HasItsJobs whole) (rest c now left)) → Each (HasItsJobs whole) (subject_shares r st rs rest)
their_subject whole subjects.Nothing there st rs rest h = h no_choice st rs
their_subject whole (subjects.Word word) there st rs rest h = h (about (word_value word st.vars)) st rs
their_subject whole (subjects.Asked q) there st rs rest h =
    let run = after_question as_is q st yes_or_no in
    each_both (HasItsJobs whole) (use_shares (uses_asked q) st run rs) (shares_answered run rs rest) (their_question whole q (there q refl) st rs)
    (each_answered (HasItsJobs whole) Always run rs rest (always run) (λ c now left k. h c now left))

their_turns : (whole : Script) (rounds : List Subject) → ((q : Question) → IsAskedIn q rounds → Has (a_question q) whole)
    → (go : Scope → State → Run) (inside : Scope → State → List Reply → List Share) → ((c : Scope) (now : State) (left : List Reply) → Each (HasItsJobs whole) (inside c now left))
    → (st : State) (rs : List Reply) → Each (HasItsJobs whole) (turn_shares rounds go inside st rs)
their_turns whole [] there go inside h st rs = tt
their_turns whole (r ∷ more) there go inside h st rs =
    each_both (HasItsJobs whole) (subject_shares r st rs inside) _ (their_subject whole r (λ q e. there q (inl e)) st rs inside h)
    (each_after (HasItsJobs whole) Always (after_subject as_is r st go) rs (turn_shares more go inside) (always (after_subject as_is r st go))
    (λ now left k. their_turns whole more (λ q a. there q (inr a)) go inside h now left))

-- ---- commands ask for nothing in tests

abbrev Unnamed : Share → Type 0
Unnamed share = share.name ≡ None

unnamed_effect : (name : List ℕ) (d : Declares) (e : Effect) (st : State) (rs : List Reply) → AssignsAlone name e → Each Unnamed (effect_shares d e st rs)
unnamed_effect name d (Assign variable value) st rs a = tt
unnamed_effect name d _ st rs a = absurd a

unnamed_subject : (r : Subject) (st : State) (rs : List Reply) (rest : Scope → State → List Reply → List Share) → TriesAlone r → ((c : Scope) (now : State) (left : List Reply) → Each Unnamed (rest c now left)) → Each Unnamed (subject_shares r st rs rest)
unnamed_subject subjects.Nothing st rs rest a h = h no_choice st rs
unnamed_subject (subjects.Word word) st rs rest a h = h (about (word_value word st.vars)) st rs
unnamed_subject (subjects.Asked (Tries kind program)) st rs rest a h =
    let run = after_question as_is (Tries kind program) st yes_or_no in
    (refl, each_answered Unnamed Always run rs rest (always run) (λ c now left k. h c now left))
unnamed_subject (subjects.Asked _) st rs rest a h = absurd a

unnamed_turn : (r : Subject) (go : Scope → State → Run) (inside : Scope → State → List Reply → List Share) (st : State) (rs : List Reply) → TriesAlone r → ((c : Scope) (now : State) (left : List Reply) → Each Unnamed (inside c now left)) → Each Unnamed (turn_shares (rounds_of r) go inside st rs)
unnamed_turn r go inside st rs a h =
    subst (λ rounds. Each Unnamed (turn_shares rounds go inside st rs)) (sym (one_round r a))
    (each_both Unnamed (subject_shares r st rs inside) (shares_after (after_subject as_is r st go) rs (turn_shares [] go inside)) (unnamed_subject r st rs inside a h)
    (each_after Unnamed Always (after_subject as_is r st go) rs (turn_shares [] go inside) (always (after_subject as_is r st go)) (λ now left k. tt)))

mutual
  unfolding shares case_shares

  unnamed : (name : List ℕ) (script : Script) (st : State) (rs : List Reply) → AreCommands name script → Each Unnamed (shares script st rs)
  unnamed name Done st rs a = tt
  unnamed name (Then d e rest) st rs a =
      each_both Unnamed (effect_shares d e st rs) _ (unnamed_effect name d e st rs a.1.0)
      (each_after Unnamed Always (effect e st) rs (shares rest) (always (effect e st)) (λ now left k. unnamed name rest now left a.1.1))
  unnamed name (Choice d subject cases rest) st rs a =
      each_both Unnamed (turn_shares (rounds_of subject) (chosen cases) (case_shares cases) st rs) _
      (unnamed_turn subject (chosen cases) (case_shares cases) st rs a.1.0 (λ c now left. unnamed_in name cases c now left a.1.1.0))
      (each_after Unnamed Always (in_turn (rounds_of subject) (chosen cases) st) rs (shares rest) (always (in_turn (rounds_of subject) (chosen cases) st)) (λ now left k. unnamed name rest now left a.1.1.1))
  unnamed name (Check message other commands rest) st rs a = absurd a

  unnamed_in : (name : List ℕ) (cases : Cases) (scope : Scope) (st : State) (rs : List Reply) → AreCommandsIn name cases → Each Unnamed (case_shares cases scope st rs)
  unnamed_in name No_case scope st rs a = tt
  unnamed_in name (Case when body more) scope st rs a =
      each_either Unnamed (is_taken when scope st.vars) (shares body st rs) (case_shares more scope st rs) (unnamed name body st rs a.0) (unnamed_in name more scope st rs a.1)

-- So AC_CACHE_CHECK has one share.
one_share : (name : List ℕ) (jobs : List Job) (l : List Share) → Each Unnamed l → owned name jobs l ≡ record { name = Some name; jobs = jobs ++ shared_jobs l } ∷ []
one_share name jobs [] h = ap (λ own. record { name = Some name; jobs = own } ∷ []) (sym (append-nil jobs))
one_share name jobs (share ∷ l) h =
    ap (λ o. cond (is_some o) (record { name = Some name; jobs = jobs } ∷ share ∷ owned name [] l) (owned name (jobs ++ share.jobs) l)) h.0
    ∙ one_share name (jobs ++ share.jobs) l h.1
    ∙ ap (λ own. record { name = Some name; jobs = own } ∷ []) (append_assoc jobs share.jobs (shared_jobs l))

their_check : (whole : Script) (message : List Part) (name : List ℕ) (commands : Script) (st : State) (rs : List Reply) → AreCommands name commands → Has (a_check message name commands) whole
    → Each (HasItsJobs whole) (made (value_of st.vars name) (owned name [] (shares commands (checking (word_value message st.vars) st) rs)))
their_check whole message name commands st rs a there =
    subst (λ l. Each (HasItsJobs whole) (made (value_of st.vars name) l)) (sym (one_share name [] inner (unnamed name commands begins rs a))) (by_value (value_of st.vars name) refl)
  where
    begins : State
    begins = checking (word_value message st.vars) st

    inner : List Share
    inner = shares commands begins rs

    its_jobs : value_of st.vars name ≡ None → jobs_asked (checks message name (meaning commands) st) rs ≡ shared_jobs inner
    its_jobs e =
        sym (check_covered message name (meaning commands) inner st rs (shares_are_jobs commands begins rs))
        ∙ ap (λ o. shared_jobs (made o (owned name [] inner))) e ∙ shared_owned name [] inner

    by_value : (o : Option (List ℕ)) → value_of st.vars name ≡ o → Each (HasItsJobs whole) (made o (record { name = Some name; jobs = shared_jobs inner } ∷ []))
    by_value None e = (subst (λ l. HasItsJobs whole (record { name = Some name; jobs = l })) (its_jobs e) (of_check whole message name commands st rs there), tt)
    by_value (Some value) e = tt

-- ---- all statements

mutual
  unfolding shares case_shares Has HasWithin

  -- Of a part of a script, each of whose askers the whole script has.
  all_their : (whole script : Script) → ((asker : Asker) → Has asker script → Has asker whole) → (st : State) (rs : List Reply) → HasCommands script → Each (HasItsJobs whole) (shares script st rs)
  all_their whole Done there st rs h = tt
  all_their whole (Then d e rest) there st rs h =
      each_both (HasItsJobs whole) (effect_shares d e st rs) _ (their_effect whole d e (there (a_statement d e) (inl refl)) st rs)
      (each_after (HasItsJobs whole) Always (effect e st) rs (shares rest) (always (effect e st)) (λ now left k. all_their whole rest (λ asker a. there asker (inr a)) now left h))
  all_their whole (Choice d subject cases rest) there st rs h =
      each_both (HasItsJobs whole) (turn_shares (rounds_of subject) (chosen cases) (case_shares cases) st rs) _
      (their_turns whole (rounds_of subject) (λ q a. there (a_question q) (inl (q, (refl, a)))) (chosen cases) (case_shares cases)
      (λ c now left. cases_their whole cases (λ asker a. there asker (inr (inl a))) c now left h.0) st rs)
      (each_after (HasItsJobs whole) Always (in_turn (rounds_of subject) (chosen cases) st) rs (shares rest) (always (in_turn (rounds_of subject) (chosen cases) st))
      (λ now left k. all_their whole rest (λ asker a. there asker (inr (inr a))) now left h.1))
  all_their whole (Check message name commands rest) there st rs h =
      each_both (HasItsJobs whole) (made (value_of st.vars name) (owned name [] (shares commands (checking (word_value message st.vars) st) rs))) _
      (their_check whole message name commands st rs h.1.0 (there (a_check message name commands) (inl refl)))
      (each_after (HasItsJobs whole) Always (checks message name (meaning commands) st) rs (shares rest) (always (checks message name (meaning commands) st))
      (λ now left k. all_their whole rest (λ asker a. there asker (inr a)) now left h.1.1))

  cases_their : (whole : Script) (cases : Cases) → ((asker : Asker) → HasWithin asker cases → Has asker whole) → (scope : Scope) (st : State) (rs : List Reply) → HasCommandsIn cases
      → Each (HasItsJobs whole) (case_shares cases scope st rs)
  cases_their whole No_case there scope st rs h = tt
  cases_their whole (Case when body more) there scope st rs h =
      each_either (HasItsJobs whole) (is_taken when scope st.vars) (shares body st rs) (case_shares more scope st rs)
      (all_their whole body (λ asker a. there asker (inl a)) st rs h.0) (cases_their whole more (λ asker a. there asker (inr a)) scope st rs h.1)

pub shares_have_their_jobs : SharesHaveTheirJobs
shares_have_their_jobs script st rs h = all_their script script (λ asker a. a) st rs h
