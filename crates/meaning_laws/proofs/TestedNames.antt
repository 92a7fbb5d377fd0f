-- The names of completed tests are cache names.
use Rattle.std.proofs.Common.{ℕ, Option, Some, None, List, [], ◌∷◌, ◌++◌, length, take, drop, codes, Bool, true, false, cond, subst, ⊎_elim}
use Rattle.std.specs.Prelude.{◌||◌, not, flat_map}
use Rattle.std.specs.List.{AllByRecursion}
use Rattle.crew_jobs.specs.declared.job.Job.{Job}
use Rattle.crew_trait.specs.declared.reply.Reply.{Reply}
use Rattle.crew_trait.specs.declared.reply.Reply.TheVariants.{Answer, StartRefused, EndRefused}
use Rattle.deftable.specs.Table.{value_of}
use Rattle.shellword.specs.declared.part.Part.{Part}
use Rattle.shellword.specs.Value.{word_value}
use Rattle.ac_tree.specs.declared.feature.OptionKind.{OptionKind}
use Rattle.ac_tree.specs.declared.statement.Effect.{Effect}
use Rattle.ac_tree.specs.declared.statement.Effect.TheVariants as effects
use Rattle.ac_tree.specs.declared.statement.Effect.TheVariants.{Assign, Package, Search, Searches, Complete}
use Rattle.ac_tree.specs.declared.statement.ProgramValue.TheVariants.{Text, FullName}
use Rattle.ac_tree.specs.declared.statement.Question as asks
use Rattle.ac_tree.specs.declared.statement.Question.TheVariants as questions
use Rattle.ac_tree.specs.declared.statement.Question.TheVariants.{Given, Tries, Checks, ChecksEach}
use Rattle.ac_tree.specs.declared.tree.Subject.{Subject}
use Rattle.ac_tree.specs.declared.tree.Subject.TheVariants.{Nothing, Word, Asked}
use Rattle.ac_tree.specs.Commands.{HasCommands, HasCommandsIn}
use Rattle.ac_tree.specs.Script.{Script, Done, Then, Choice, Check, Cases, No_case, Case}
use Rattle.ac_tree.specs.TestNames.{NamesVariable, HasTestNames, HasTestNamesIn}
use Rattle.deftable.specs.ShellName.{IsShellName}
use Rattle.meaning.specs.State.{State, Scope, no_choice, about, answered, Goes_on, Completed, Run, Ends, Asks, as_is, value_or_empty}
use Rattle.meaning.specs.Tests.{cached_test, tested}
use Rattle.test_forms.specs.declared.form.Gives.{Gives}
use Rattle.test_forms.specs.declared.form.Gives.TheVariants as forms
use Rattle.meaning.specs.Forms.{FormTest, form_name, says_found}
use Rattle.meaning.specs.Entries.{sought_test, library_test, search_test, tests_of}
use Rattle.meaning.specs.Rows.{TestKind, Program, Formed, name_of, value_if, row_of}
use Rattle.meaning.specs.Batches.{asking}
use Rattle.meaning.specs.Meaning.{settled, is_unsettled, check_prog, has_value, looks, looks_all, effect, after_question, after_subject, rounds_of, in_turn, is_taken, check, meaning, chosen}
use Rattle.meaning_laws.specs.Batched.{answer_to, names_asked}
use Rattle.meaning_laws.specs.Deeds.{Deed, Assigned, Tested, deeds_after, left_set, is_added, libs_if, added_deeds, assigned_by, kind_deeds, look_deeds, looks_deeds, default_deeds, prefix_deeds, replied_deeds, effect_deeds, given_deeds, question_deeds, deeds_answered, subject_deeds, turn_deeds, check_deeds, deeds, case_deeds, Among, TestedAreCached}
use Rattle.meaning_laws.specs.Questions.{yes_or_no}
use Rattle.meaning_laws.proofs.Names.{IsCached, form_cached, program_cached, path_cached}

-- If the deed is a completed test, its name is a cache name.
abbrev HasName : Deed → Type 0
HasName (Assigned name) = Unit {0}
HasName (Tested name) = IsCached name

abbrev HaveNames : List Deed → Type 0
HaveNames ds = AllByRecursion HasName ds

of_both : (a b : List Deed) → HaveNames a → HaveNames b → HaveNames (a ++ b)
of_both [] b h k = k
of_both (d ∷ a) b h k = (h.0, of_both a b h.1 k)

of_either : (c : Bool) (a b : List Deed) → HaveNames a → HaveNames b → HaveNames (cond c a b)
of_either true a b h k = h
of_either false a b h k = k

of_after : (r : Run) (rs : List Reply) (rest : State → List Reply → List Deed) → ((st : State) (left : List Reply) → HaveNames (rest st left)) → HaveNames (deeds_after r rs rest)
of_after (Ends Goes_on st) rs rest h = h st rs
of_after (Ends _ st) rs rest h = tt
of_after (Asks jobs ask) rs rest h = of_after (ask (take (length jobs) rs)) (drop (length jobs) rs) rest h

of_answered : (r : Run) (rs : List Reply) (rest : Scope → State → List Reply → List Deed) → ((scope : Scope) (st : State) (left : List Reply) → HaveNames (rest scope st left)) → HaveNames (deeds_answered r rs rest)
of_answered (Ends Goes_on st) rs rest h = h (answered true) st rs
of_answered (Ends Completed st) rs rest h = h (answered false) st rs
of_answered (Ends _ st) rs rest h = tt
of_answered (Asks jobs ask) rs rest h = of_answered (ask (take (length jobs) rs)) (drop (length jobs) rs) rest h

of_left : (name : List ℕ) → IsCached name → (before now : Option (List ℕ)) → HaveNames (left_set name before now)
of_left name c (Some value) now = tt
of_left name c None None = tt
of_left name c None (Some value) = (c, tt)

of_libs : (b : Bool) → HaveNames (libs_if b)
of_libs true = (tt, tt)
of_libs false = tt

of_added : (gives : Gives) (found : Bool) (value : Option (List ℕ)) → HaveNames (added_deeds gives found value)
of_added (forms.AddsLibrary library) found value = of_libs found
of_added forms.AddsValue found value = of_libs (is_added value)
of_added _ found value = tt

of_assigned : (kind : TestKind) (value : Option (List ℕ)) → HaveNames (assigned_by kind value)
of_assigned (Program s own) value = (tt, tt)
of_assigned (Formed t) value = of_added t.form.gives (says_found t.form.says value) value

of_kind : (kind : TestKind) → IsCached (name_of kind) → (st : State) (rs : List Reply) → HaveNames (kind_deeds kind st rs)
of_kind kind c st rs =
    of_after (tested (row_of kind st) st) rs _
    (λ now left. of_both (left_set (name_of kind) (value_of st.vars (name_of kind)) (value_of now.vars (name_of kind))) _ (of_left (name_of kind) c _ _) (of_assigned kind (value_of now.vars (name_of kind))))

of_form : (t : FormTest) (st : State) (rs : List Reply) → HaveNames (kind_deeds (Formed t) st rs)
of_form t st rs = of_kind (Formed t) (form_cached t.form) st rs

-- Statements.
of_look : (variable program : List ℕ) (always : Bool) (st : State) (rs : List Reply) → IsShellName variable → HaveNames (look_deeds variable program always st rs)
of_look variable program always st rs n =
    let kind = Program (check_prog variable program program None) (value_if (has_value st variable) (value_or_empty st variable)) in
    of_either (always || not (has_value st variable)) (kind_deeds kind st rs) [] (of_kind kind (program_cached variable n) st rs) tt

of_looks : (variable : List ℕ) (programs : List (List ℕ)) (always : Bool) (st : State) (rs : List Reply) → IsShellName variable → HaveNames (looks_deeds variable programs always st rs)
of_looks variable [] always st rs n = tt
of_looks variable (program ∷ more) always st rs n =
    of_both (look_deeds variable program always st rs) _ (of_look variable program always st rs n)
    (of_after (looks variable program always st) rs (looks_deeds variable more false) (λ now left. of_looks variable more false now left n))

of_default : (variable : List ℕ) (word : Option (List Part)) (st : State) → HaveNames (default_deeds variable word st)
of_default variable None st = tt
of_default variable (Some word) st = of_either (has_value st variable) [] (Assigned variable ∷ []) tt (tt, tt)

of_prefix : (name : List ℕ) (st : State) → HaveNames (prefix_deeds name st)
of_prefix name st = of_either (is_unsettled (value_of st.vars name)) (Assigned name ∷ []) [] (tt, tt) tt

of_reply : (name : List ℕ) → IsCached name → (reply : Option Reply) → HaveNames (replied_deeds name reply)
of_reply name c None = tt
of_reply name c (Some (Answer status text)) = (c, tt)
of_reply name c (Some StartRefused) = tt
of_reply name c (Some EndRefused) = tt

of_asked : (asks : List (FormTest × Option Job)) (reply : List ℕ → Option Reply) → HaveNames (flat_map (λ name. replied_deeds name (reply name)) (names_asked asks))
of_asked [] reply = tt
of_asked ((test, None) ∷ more) reply = of_asked more reply
of_asked ((test, Some job) ∷ more) reply =
    let name = form_name test.form in
    of_both (replied_deeds name (reply name)) _ (of_reply name (form_cached test.form) (reply name)) (of_asked more reply)

of_effect : (e : Effect) (st : State) (rs : List Reply) → NamesVariable e → HaveNames (effect_deeds e st rs)
unfolding effect_deeds
of_effect (Assign name value) st rs n = (tt, tt)
of_effect (Package title version bug tarname url) st rs n = (tt, (tt, (tt, (tt, (tt, (tt, tt))))))
of_effect (Search variable program (Text found) otherwise) st rs n = of_kind (Program _ _) (program_cached variable n) st rs
of_effect (Search variable program FullName otherwise) st rs n = of_kind (Program _ _) (path_cached variable n) st rs
of_effect (Searches variable programs otherwise) st rs n =
    of_both (looks_deeds variable programs true st rs) _ (of_looks variable programs true st rs n)
    (of_after (looks_all variable programs true st) rs (λ now left. default_deeds variable otherwise now) (λ now left. of_default variable otherwise now))
of_effect (effects.Batch listed entries includes) st rs n =
    let asks = asking 1 [] (tests_of listed entries includes) st in
    of_asked asks (λ name. answer_to name asks rs)
of_effect Complete st rs n =
    of_both (prefix_deeds (codes "prefix") st) _ (of_prefix (codes "prefix") st) (of_prefix (codes "exec_prefix") (settled (codes "prefix") (codes "/usr/local") st))
of_effect _ st rs n = tt

-- Choices.
of_given : (value : Option (List ℕ)) (kind : OptionKind) → HaveNames (given_deeds value kind)
of_given None kind = tt
of_given (Some value) kind = (tt, tt)

of_question : (question : asks.Question) (st : State) (rs : List Reply) → HaveNames (question_deeds question st rs)
of_question (Given kind variable) st rs = of_given (value_of st.vars variable) kind
of_question (Tries kind program) st rs = tt
of_question (Checks sought entry includes) st rs = of_form (sought_test sought entry includes false) st rs
of_question (ChecksEach sought [] includes) st rs = tt
of_question (ChecksEach sought (entry ∷ more) includes) st rs = of_form (sought_test sought entry includes true) st rs
of_question (questions.Library library function others adds) st rs = of_form (library_test library function others adds) st rs
of_question (questions.Libraries function libraries others) st rs = of_form (search_test function libraries others) st rs

of_subject : (subject : Subject) (st : State) (rs : List Reply) (rest : Scope → State → List Reply → List Deed) → ((scope : Scope) (now : State) (left : List Reply) → HaveNames (rest scope now left)) → HaveNames (subject_deeds subject st rs rest)
of_subject Nothing st rs rest h = h no_choice st rs
of_subject (Word word) st rs rest h = h (about (word_value word st.vars)) st rs
of_subject (Asked question) st rs rest h =
    of_both (question_deeds question st rs) _ (of_question question st rs) (of_answered (after_question as_is question st yes_or_no) rs rest h)

of_turns : (rounds : List Subject) (go : Scope → State → Run) (did : Scope → State → List Reply → List Deed) (st : State) (rs : List Reply) → ((scope : Scope) (now : State) (left : List Reply) → HaveNames (did scope now left)) → HaveNames (turn_deeds rounds go did st rs)
of_turns [] go did st rs h = tt
of_turns (subject ∷ more) go did st rs h =
    of_both (subject_deeds subject st rs did) _ (of_subject subject st rs did h) (of_after (after_subject as_is subject st go) rs (turn_deeds more go did) (λ now left. of_turns more go did now left h))

mutual
  unfolding deeds case_deeds

  of_script : (script : Script) (st : State) (rs : List Reply) → HasCommands script → HasTestNames script → HaveNames (deeds script st rs)
  of_script Done st rs c n = tt
  of_script (Then declares e rest) st rs c n =
      of_both (effect_deeds e st rs) _ (of_effect e st rs n.0) (of_after (effect e st) rs (deeds rest) (λ now left. of_script rest now left c n.1))
  of_script (Choice declares subject cases rest) st rs c n =
      of_both (turn_deeds (rounds_of subject) (chosen cases) (case_deeds cases) st rs) _
      (of_turns (rounds_of subject) (chosen cases) (case_deeds cases) st rs (λ scope now left. of_cases cases scope now left c.0 n.0))
      (of_after (in_turn (rounds_of subject) (chosen cases) st) rs (deeds rest) (λ now left. of_script rest now left c.1 n.1))
  of_script (Check message name commands rest) st rs c n =
      let run = cached_test (check message name (meaning commands) st) st in
      of_both (check_deeds name st run rs) _
      (of_after run rs (λ now left. left_set name (value_of st.vars name) (value_of now.vars name)) (λ now left. of_left name c.0 (value_of st.vars name) (value_of now.vars name)))
      (of_after run rs (deeds rest) (λ now left. of_script rest now left c.1.1 n.1))

  of_cases : (cases : Cases) (scope : Scope) (st : State) (rs : List Reply) → HasCommandsIn cases → HasTestNamesIn cases → HaveNames (case_deeds cases scope st rs)
  of_cases No_case scope st rs c n = tt
  of_cases (Case when body more) scope st rs c n =
      of_either (is_taken when scope st.vars) (deeds body st rs) (case_deeds more scope st rs) (of_script body st rs c.0 n.0) (of_cases more scope st rs c.1 n.1)

one_of : (d : Deed) (ds : List Deed) → HaveNames ds → Among d ds → HasName d
one_of d [] h k = absurd k
one_of d (e ∷ ds) h k = ⊎_elim (λ same. subst HasName same h.0) (λ l. one_of d ds h.1 l) k

pub tested_names_are_cached : TestedAreCached
tested_names_are_cached script st rs name c n h = one_of (Tested name) (deeds script st rs) (of_script script st rs c n) h
