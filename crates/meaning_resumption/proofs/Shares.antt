-- The jobs of the shares of a run are those that it asks for.
use Rattle.std.proofs.Common.{◌≡◌, ℕ, ◌+◌, List, [], ◌∷◌, ◌++◌, length, take, drop, Bool, true, false, cond, Option, Some, None, refl, sym, ap, ◌∙◌, subst, append_assoc}
use Rattle.std.specs.Prelude.{◌||◌, not, is_some}
use Rattle.std.proofs.lemmas.List.{append-nil}
use Rattle.crew_jobs.specs.declared.job.Job.{Job}
use Rattle.crew_jobs.specs.Probe.{run_of, job_of}
use Rattle.crew_trait.specs.declared.reply.Reply.{Reply}
use Rattle.deftable.specs.Table.{value_of}
use Rattle.shellword.specs.declared.part.Part.{Part}
use Rattle.shellword.specs.Value.{word_value}
use Rattle.ac_tree.specs.declared.feature.OptionKind.{OptionKind}
use Rattle.ac_tree.specs.declared.program.Try as kinds
use Rattle.ac_tree.specs.declared.program.Try.TheVariants as kinds_are
use Rattle.ac_tree.specs.declared.statement.Declares.{Declares}
use Rattle.ac_tree.specs.declared.statement.Declares.TheVariants as declares
use Rattle.ac_tree.specs.declared.statement.Effect.{Effect}
use Rattle.ac_tree.specs.declared.statement.Effect.TheVariants as effects
use Rattle.ac_tree.specs.declared.statement.Effect.TheVariants.{Nothing, Search, Searches}
use Rattle.ac_tree.specs.declared.statement.ProgramValue.TheVariants.{Text, FullName}
use Rattle.ac_tree.specs.declared.statement.Question.{Question}
use Rattle.ac_tree.specs.declared.statement.Question.TheVariants as questions
use Rattle.ac_tree.specs.declared.statement.Question.TheVariants.{Given, Tries, Checks, ChecksEach}
use Rattle.ac_tree.specs.declared.tree.Subject.{Subject}
use Rattle.ac_tree.specs.declared.tree.Subject.TheVariants as subjects
use Rattle.ac_tree.specs.Script.{Done, Then, Choice, Check, Cases, No_case, Case}
use Rattle.ac_tree.specs.TestNames.{program_name, sought_name}
use Rattle.ac_tree.specs.Uses.{uses_of, uses_asked}
use Rattle.meaning.specs.State.{State, Scope, no_choice, about, answered, with_child, with_variable, How, Goes_on, Completed, Cut, Run, Ends, Asks, then_run, ended, as_is, value_or_empty}
use Rattle.meaning.specs.Asking.{success, only_reply, after_child, child, compiled}
use Rattle.meaning.specs.Tests.{Row, Test, checking, cached_test, test_by, guarded, broken, tested, tested_by, may_begin}
use Rattle.meaning.specs.Rows.{Program, Formed, name_of, value_if, row_of}
use Rattle.meaning.specs.Forms.{FormTest, form_name, says_found}
use Rattle.meaning.specs.Entries.{sought_test, library_test, search_test, tests_of}
use Rattle.meaning.specs.Batches.{jobs_in, asking, asks_all, with_body, replied, replies_after, commits, committed, batched}
use Rattle.meaning.specs.Play.{first_number, refused_after, last_words}
use Rattle.meaning.specs.Tries.{first_probe, after_first, text_of}
use Rattle.meaning.specs.Meaning.{has_value, check_prog, program_test, looks_all, effect, value_name, after_option, found_by, after_question, after_subject, rounds_of, in_turn, is_taken, check, meaning, chosen}
use Rattle.meaning_laws.specs.Ends.{AtEnds}
use Rattle.meaning_laws.specs.Cached.{IsSet, with_cached}
use Rattle.meaning_laws.specs.Questions.{yes_or_no}
use Rattle.meaning_laws.proofs.CachedTests.{set_row}
use Rattle.meaning_laws.proofs.TestDeeds.{IsOpen, tested_open}
use Rattle.meaning_laws.proofs.Values.{set_write}
use Rattle.meaning_resumption.specs.Joint.{checks}
use Rattle.meaning_resumption.proofs.Names.{sought_named}
use Rattle.meaning_resumption.specs.Asked.{Share, jobs_asked, made, use_shares, entry_shares, effect_shares, shares_after, shares_answered, subject_shares, turn_shares, owned, shares, case_shares, shared_jobs, SharesAreJobs, SharesArePlayed}

shared_both : (a b : List Share) → shared_jobs (a ++ b) ≡ shared_jobs a ++ shared_jobs b
shared_both [] b = refl
shared_both (share ∷ a) b = ap (λ l. share.jobs ++ l) (shared_both a b) ∙ sym (append_assoc share.jobs (shared_jobs a) (shared_jobs b))

pub shared_owned : (name : List ℕ) (jobs : List Job) (l : List Share) → shared_jobs (owned name jobs l) ≡ jobs ++ shared_jobs l
shared_owned name jobs [] = refl
shared_owned name jobs (share ∷ l) =
    by_test (is_some share.name) (ap (λ rest. jobs ++ (share.jobs ++ rest)) (shared_owned name [] l)) (shared_owned name (jobs ++ share.jobs) l ∙ append_assoc jobs share.jobs (shared_jobs l))
  where
    by_test : (b : Bool) → jobs ++ (share.jobs ++ shared_jobs (owned name [] l)) ≡ jobs ++ (share.jobs ++ shared_jobs l) → shared_jobs (owned name (jobs ++ share.jobs) l) ≡ jobs ++ (share.jobs ++ shared_jobs l)
        → shared_jobs (cond b (record { name = Some name; jobs = jobs } ∷ share ∷ owned name [] l) (owned name (jobs ++ share.jobs) l)) ≡ jobs ++ (share.jobs ++ shared_jobs l)
    by_test true h k = h
    by_test false h k = k

-- What is said to be asked for is asked for.
abbrev Covers : (State → List Reply → List Share) → (State → Run) → Type 0
Covers said run = (st : State) (rs : List Reply) → shared_jobs (said st rs) ≡ jobs_asked (run st) rs

asked_then : (run : Run) (rest : State → Run) (said : State → List Reply → List Share) (rs : List Reply) → Covers said rest → jobs_asked (then_run run rest) rs ≡ jobs_asked run rs ++ shared_jobs (shares_after run rs said)
asked_then (Ends Goes_on st) rest said rs h = sym (h st rs)
asked_then (Ends _ st) rest said rs h = refl
asked_then (Asks jobs next) rest said rs h =
    let t = take (length jobs) rs in
    let left = drop (length jobs) rs in
    ap (λ l. jobs ++ l) (asked_then (next t) rest said left h) ∙ sym (append_assoc jobs (jobs_asked (next t) left) (shared_jobs (shares_after (next t) left said)))

-- A part, and what follows it.
covered_then : (part : List Share) (run : Run) (rest : State → Run) (said : State → List Reply → List Share) (rs : List Reply) → shared_jobs part ≡ jobs_asked run rs → Covers said rest
    → shared_jobs (part ++ shares_after run rs said) ≡ jobs_asked (then_run run rest) rs
covered_then part run rest said rs e h =
    shared_both part (shares_after run rs said) ∙ ap (λ l. l ++ shared_jobs (shares_after run rs said)) e ∙ sym (asked_then run rest said rs h)

-- ---- runs that ask for nothing

-- The run is at its end.
abbrev pub IsEnd : Run → Type 0
IsEnd (Ends how st) = Unit {0}
IsEnd (Asks jobs next) = ⊥

asks_nothing : (run : Run) (rs : List Reply) → IsEnd run → jobs_asked run rs ≡ []
asks_nothing (Ends how st) rs h = refl
asks_nothing (Asks jobs next) rs h = absurd h

end_then : (run : Run) (rest : State → Run) → IsEnd run → ((st : State) → IsEnd (rest st)) → IsEnd (then_run run rest)
end_then (Ends Goes_on st) rest h k = k st
end_then (Ends _ st) rest h k = tt
end_then (Asks jobs next) rest h k = absurd h

end_ended : (change : How → State → State) (run : Run) → IsEnd run → IsEnd (ended change run)
end_ended change (Ends how st) h = tt
end_ended change (Asks jobs next) h = absurd h

end_commits : (run : Run) (refused : Bool) (rest : Bool → State → Run) → IsEnd run → ((b : Bool) (st : State) → IsEnd (rest b st)) → IsEnd (commits run refused rest)
end_commits (Ends Goes_on st) refused rest h k = k refused st
end_commits (Ends Cut st) refused rest h k = k true st
end_commits (Ends _ st) refused rest h k = tt
end_commits (Asks jobs next) refused rest h k = absurd h

-- ---- tests

-- What follows a test asks for nothing, and what is done at its end changes nothing of that.
pub asked_ended : (change : How → State → State) (run : Run) (rs : List Reply) → jobs_asked (ended change run) rs ≡ jobs_asked run rs
asked_ended change (Ends how st) rs = refl
asked_ended change (Asks jobs next) rs = ap (λ l. jobs ++ l) (asked_ended change (next (take (length jobs) rs)) (drop (length jobs) rs))

pub asked_until : (run : Run) (rest : State → Run) (rs : List Reply) → ((st : State) → IsEnd (rest st)) → jobs_asked (then_run run rest) rs ≡ jobs_asked run rs
asked_until (Ends Goes_on st) rest rs h = asks_nothing (rest st) rs (h st)
asked_until (Ends _ st) rest rs h = refl
asked_until (Asks jobs next) rest rs h = ap (λ l. jobs ++ l) (asked_until (next (take (length jobs) rs)) rest (drop (length jobs) rs) h)

-- A test that asks for nothing if its name is set.
test_covered : (name : List ℕ) (st : State) (run : Run) (rs : List Reply) → ((value : List ℕ) → value_of st.vars name ≡ Some value → IsEnd run)
    → shared_jobs (made (value_of st.vars name) (record { name = Some name; jobs = jobs_asked run rs } ∷ [])) ≡ jobs_asked run rs
test_covered name st run rs set = by_value (value_of st.vars name) refl
  where
    by_value : (o : Option (List ℕ)) → value_of st.vars name ≡ o → shared_jobs (made o (record { name = Some name; jobs = jobs_asked run rs } ∷ [])) ≡ jobs_asked run rs
    by_value None e = append-nil (jobs_asked run rs)
    by_value (Some value) e = sym (asks_nothing run rs (set value e))

row_end : (row : Row) (st : State) (value : List ℕ) → value_of st.vars row.test.name ≡ Some value → IsEnd (tested row st)
row_end row st value e = subst IsEnd (sym (set_row row value st e)) tt

found_end : (t : FormTest) (st : State) (value : List ℕ) → value_of st.vars (form_name t.form) ≡ Some value → IsEnd (found_by as_is t st yes_or_no)
found_end t st value e =
    let row = row_of (Formed t) st in
    end_then (ended as_is (tested row st)) _ (end_ended as_is (tested row st) (row_end row st value e)) (λ now. tt)

-- ---- batches

cached_end : (t : Test) (o : Option (List ℕ)) (st : State) → IsEnd (t.body st) → IsEnd (test_by o t st)
cached_end t None st h = end_then (guarded t.name (t.body st)) _ (end_ended (broken t.name) (t.body st) h) (λ now. tt)
cached_end t (Some value) st h = tt

body_end : (row : Row) (ready : Bool) (st : State) → ((now : State) → IsEnd (row.test.body now)) → IsEnd (tested_by ready row st)
body_end row true st h = end_then (cached_test row.test st) _ (cached_end row.test (value_of st.vars row.test.name) (checking row.test.message st) (h (checking row.test.message st))) (λ now. tt)
body_end row false st h = tt

heard_end : (o : Option Bool) (st : State) (go : Bool → State → Run) → ((b : Bool) (now : State) → IsEnd (go b now)) → IsEnd (after_child as_is o st go)
heard_end None st go h = tt
heard_end (Some b) st go h = h b st

replied_end : (name : List ℕ) (job : Option Job) (reply : Reply) (st : State) → IsEnd (replied name job reply st)
replied_end name None reply st = tt
replied_end name (Some job) reply st = heard_end (success reply) (with_child job reply st) _ (λ b now. tt)

committed_end : (first : State) (asks : List (FormTest × Option Job)) (replies : List Reply) (refused : Bool) (st : State) → IsEnd (committed first asks replies refused st)
committed_end first [] replies true st = tt
committed_end first [] replies false st = tt
committed_end first ((test, job) ∷ more) replies refused st =
    let name = name_of (Formed test) in
    let row = with_body (replied name job (only_reply replies)) (row_of (Formed test) first) in
    end_commits (tested row st) refused (committed first more (replies_after job replies))
    (body_end row (may_begin (value_of st.vars name) row.ready) st (λ now. replied_end name job (only_reply replies) now))
    (λ b now. committed_end first more (replies_after job replies) b now)

asked_all : (jobs : List Job) (next : List Reply → Run) (rs : List Reply) → ((t : List Reply) → IsEnd (next t)) → jobs_asked (asks_all jobs next) rs ≡ jobs
asked_all [] next rs h = asks_nothing (next []) rs (h [])
asked_all (job ∷ jobs) next rs h =
    let t = take (length (job ∷ jobs)) rs in
    ap (λ l. (job ∷ jobs) ++ l) (asks_nothing (next t) (drop (length (job ∷ jobs)) rs) (h t)) ∙ append-nil (job ∷ jobs)

entries_jobs : (asks : List (FormTest × Option Job)) → shared_jobs (entry_shares asks) ≡ jobs_in asks
entries_jobs [] = refl
entries_jobs ((test, None) ∷ more) = entries_jobs more
entries_jobs ((test, Some job) ∷ more) = ap (λ l. job ∷ l) (entries_jobs more)

batch_covered : (tests : List FormTest) (st : State) (rs : List Reply) → shared_jobs (entry_shares (asking 1 [] tests st)) ≡ jobs_asked (batched tests st) rs
batch_covered tests st rs =
    let asks = asking 1 [] tests st in
    entries_jobs asks ∙ sym (asked_all (jobs_in asks) (λ replies. committed st asks replies false st) rs (λ t. committed_end st asks t false st))

-- ---- programs

-- A look of a program whose name is set, and what follows it.
look_end : (variable program : List ℕ) (b : Bool) (st : State) (rest : State → Run) (s : IsSet (program_name variable) st.vars) → ((now : State) → IsSet (program_name variable) now.vars → IsEnd (rest now))
    → IsEnd (then_run (cond b (program_test (check_prog variable program program None) (has_value st variable) st) (Ends Goes_on st)) rest)
look_end variable program false st rest s h = h st s
look_end variable program true st rest s h =
    let row = row_of (Program (check_prog variable program program None) (value_if (has_value st variable) (value_or_empty st variable))) st in
    subst (λ run. IsEnd (then_run run rest)) (sym (set_row row s.0 st s.1)) (h (row.after (Some s.0) (with_cached row.test s.0 st)) (set_write st.vars variable s.0 (program_name variable) s))

-- If the name is set, none of the programs is looked for.
looks_end : (variable : List ℕ) (programs : List (List ℕ)) (always : Bool) (st : State) → IsSet (program_name variable) st.vars → IsEnd (looks_all variable programs always st)
looks_end variable [] always st s = tt
looks_end variable (program ∷ more) always st s =
    look_end variable program (always || not (has_value st variable)) st (looks_all variable more false) s (λ now k. looks_end variable more false now k)

-- ---- statements

nothing_covered : (d : Declares) (st : State) (rs : List Reply) → shared_jobs (use_shares (uses_of d Nothing) st (Ends Goes_on st) rs) ≡ []
nothing_covered (declares.Variable name) st rs = refl
nothing_covered _ st rs = refl

effect_covered : (d : Declares) (e : Effect) (st : State) (rs : List Reply) → shared_jobs (effect_shares d e st rs) ≡ jobs_asked (effect e st) rs
unfolding effect
effect_covered d (effects.Batch listed entries includes) st rs = batch_covered (tests_of listed entries includes) st rs
effect_covered d (Search variable program (Text found) otherwise) st rs = test_covered _ st (effect (Search variable program (Text found) otherwise) st) rs (row_end (row_of (Program _ _) st) st)
effect_covered d (Search variable program FullName otherwise) st rs = test_covered _ st (effect (Search variable program FullName otherwise) st) rs (row_end (row_of (Program _ _) st) st)
effect_covered d (Searches variable programs otherwise) st rs =
    test_covered (program_name variable) st (effect (Searches variable programs otherwise) st) rs
    (λ value e. end_then (looks_all variable programs true st) _ (looks_end variable programs true st (value, e)) (λ now. tt))
effect_covered d Nothing st rs = nothing_covered d st rs
effect_covered d _ st rs = refl

-- ---- choices

abbrev CoversChoice : (Scope → State → List Reply → List Share) → (Scope → State → Run) → Type 0
CoversChoice said go = (scope : Scope) → Covers (said scope) (go scope)

-- What follows a question is asked for after it, however it is answered.
abbrev Answers : (Scope → State → List Reply → List Share) → Run → Run → Type 0
Answers said asking run = (rs : List Reply) → jobs_asked run rs ≡ jobs_asked asking rs ++ shared_jobs (shares_answered asking rs said)

either_answers : (said : Scope → State → List Reply → List Share) (go : Scope → State → Run) → CoversChoice said go → (b : Bool) (now : State) → Answers said (yes_or_no (answered b) now) (go (answered b) now)
either_answers said go h true now = λ rs. sym (h (answered true) now rs)
either_answers said go h false now = λ rs. sym (h (answered false) now rs)

heard_answers : (said : Scope → State → List Reply → List Share) (answer : Option Bool) (st : State) (f g : Bool → State → Run) → ((b : Bool) (now : State) → Answers said (f b now) (g b now)) → Answers said (after_child as_is answer st f) (after_child as_is answer st g)
heard_answers said None st f g k = λ rs. refl
heard_answers said (Some b) st f g k = k b st

child_answers : (said : Scope → State → List Reply → List Share) (job : Job) (st : State) (f g : Bool → State → Run) → ((b : Bool) (now : State) → Answers said (f b now) (g b now)) → Answers said (child as_is job st f) (child as_is job st g)
child_answers said job st f g k =
    λ rs.
    let reply = only_reply (take (length (job ∷ [])) rs) in
    ap (λ l. job ∷ l) (heard_answers said (success reply) (with_child job reply st) f g k (drop (length (job ∷ [])) rs))

compiled_answers : (said : Scope → State → List Reply → List Share) (job : Option Job) (st : State) (f g : Bool → State → Run) → ((b : Bool) (now : State) → Answers said (f b now) (g b now)) → Answers said (compiled as_is job st f) (compiled as_is job st g)
compiled_answers said None st f g k = λ rs. refl
compiled_answers said (Some job) st f g k = child_answers said job st f g k

first_answers : (said : Scope → State → List Reply → List Share) (kind : kinds.Try) (f g : Bool → State → Run) → ((b : Bool) (now : State) → Answers said (f b now) (g b now)) → (b : Bool) (st : State) → Answers said (after_first as_is kind f b st) (after_first as_is kind g b st)
first_answers said kinds_are.Run f g k true st = child_answers said (run_of 0) st f g k
first_answers said kinds_are.Run f g k false st = k false st
first_answers said kinds_are.Compile f g k b st = k b st
first_answers said kinds_are.Link f g k b st = k b st
first_answers said kinds_are.Preproc f g k b st = k b st

run_answers : (said : Scope → State → List Reply → List Share) (go : Scope → State → Run) (f : State → Bool) (run : Run) → AtEnds (λ how now. IsOpen how) run → CoversChoice said go
    → Answers said (then_run (ended as_is run) (λ now. yes_or_no (answered (f now)) now)) (then_run (ended as_is run) (λ now. go (answered (f now)) now))
run_answers said go f (Ends Goes_on st) opens h = either_answers said go h (f st) st
run_answers said go f (Ends Completed st) opens h = absurd (opens refl)
run_answers said go f (Ends _ st) opens h = λ rs. refl
run_answers said go f (Asks jobs next) opens h =
    λ rs.
    let t = take (length jobs) rs in
    ap (λ l. jobs ++ l) (run_answers said go f (next t) (opens t) h (drop (length jobs) rs)) ∙ sym (append_assoc jobs _ _)

found_answers : (said : Scope → State → List Reply → List Share) (go : Scope → State → Run) (t : FormTest) (st : State) → CoversChoice said go → Answers said (found_by as_is t st yes_or_no) (found_by as_is t st go)
found_answers said go t st h = run_answers said go (λ now. says_found t.form.says (value_of now.vars (form_name t.form))) (tested (row_of (Formed t) st) st) (tested_open (Formed t) st) h

given_answers : (said : Scope → State → List Reply → List Share) (go : Scope → State → Run) (o : Option (List ℕ)) (kind : OptionKind) (st : State) → CoversChoice said go → Answers said (after_option o kind st yes_or_no) (after_option o kind st go)
given_answers said go None kind st h = either_answers said go h false st
given_answers said go (Some value) kind st h = either_answers said go h true (with_variable (value_name kind) value st)

question_answers : (said : Scope → State → List Reply → List Share) (go : Scope → State → Run) (q : Question) (st : State) → CoversChoice said go → Answers said (after_question as_is q st yes_or_no) (after_question as_is q st go)
question_answers said go (Given kind variable) st h = given_answers said go (value_of st.vars variable) kind st h
question_answers said go (Tries kind program) st h =
    compiled_answers said (job_of (first_probe kind (text_of program st.vars)) 0 st.vars st.defs) st _ _
    (first_answers said kind (λ b. yes_or_no (answered b)) (λ b. go (answered b)) (either_answers said go h))
question_answers said go (Checks sought entry includes) st h = found_answers said go (sought_test sought entry includes false) st h
question_answers said go (ChecksEach sought [] includes) st h = either_answers said go h false st
question_answers said go (ChecksEach sought (entry ∷ more) includes) st h = found_answers said go (sought_test sought entry includes true) st h
question_answers said go (questions.Library library function others adds) st h = found_answers said go (library_test library function others adds) st h
question_answers said go (questions.Libraries function libraries others) st h = found_answers said go (search_test function libraries others) st h

found_covered : (t : FormTest) (name : List ℕ) (st : State) (rs : List Reply) → form_name t.form ≡ name
    → shared_jobs (made (value_of st.vars name) (record { name = Some name; jobs = jobs_asked (found_by as_is t st yes_or_no) rs } ∷ [])) ≡ jobs_asked (found_by as_is t st yes_or_no) rs
found_covered t name st rs is = test_covered name st (found_by as_is t st yes_or_no) rs (λ value e. found_end t st value (ap (value_of st.vars) is ∙ e))

given_covered : (o : Option (List ℕ)) (kind : OptionKind) (st : State) (rs : List Reply) → [] ≡ jobs_asked (after_option o kind st yes_or_no) rs
given_covered None kind st rs = refl
given_covered (Some value) kind st rs = refl

question_covered : (q : Question) (st : State) (rs : List Reply) → shared_jobs (use_shares (uses_asked q) st (after_question as_is q st yes_or_no) rs) ≡ jobs_asked (after_question as_is q st yes_or_no) rs
question_covered (Given kind variable) st rs = given_covered (value_of st.vars variable) kind st rs
question_covered (Tries kind program) st rs = append-nil (jobs_asked (after_question as_is (Tries kind program) st yes_or_no) rs)
question_covered (Checks sought entry includes) st rs = found_covered (sought_test sought entry includes false) (sought_name sought entry) st rs (sought_named sought entry false)
question_covered (ChecksEach sought [] includes) st rs = refl
question_covered (ChecksEach sought (entry ∷ more) includes) st rs = found_covered (sought_test sought entry includes true) (sought_name sought entry) st rs (sought_named sought entry true)
question_covered (questions.Library library function others adds) st rs = found_covered (library_test library function others adds) _ st rs refl
question_covered (questions.Libraries function libraries others) st rs = found_covered (search_test function libraries others) _ st rs refl

subject_covered : (subject : Subject) (go : Scope → State → Run) (said : Scope → State → List Reply → List Share) (st : State) (rs : List Reply) → CoversChoice said go → shared_jobs (subject_shares subject st rs said) ≡ jobs_asked (after_subject as_is subject st go) rs
unfolding after_subject
subject_covered subjects.Nothing go said st rs h = h no_choice st rs
subject_covered (subjects.Word word) go said st rs h = h (about (word_value word st.vars)) st rs
subject_covered (subjects.Asked q) go said st rs h =
    let run = after_question as_is q st yes_or_no in
    let later = shares_answered run rs said in
    shared_both (use_shares (uses_asked q) st run rs) later ∙ ap (λ l. l ++ shared_jobs later) (question_covered q st rs) ∙ sym (question_answers said go q st h rs)

turns_covered : (rounds : List Subject) (go : Scope → State → Run) (said : Scope → State → List Reply → List Share) → CoversChoice said go → Covers (turn_shares rounds go said) (in_turn rounds go)
turns_covered [] go said h st rs = refl
turns_covered (round ∷ more) go said h st rs =
    covered_then (subject_shares round st rs said) (after_subject as_is round st go) (in_turn more go) (turn_shares more go said) rs (subject_covered round go said st rs h) (turns_covered more go said h)

-- ---- all statements

pub check_covered : (message : List Part) (name : List ℕ) (body : State → Run) (inner : List Share) (st : State) (rs : List Reply) → shared_jobs inner ≡ jobs_asked (body (checking (word_value message st.vars) st)) rs
    → shared_jobs (made (value_of st.vars name) (owned name [] inner)) ≡ jobs_asked (checks message name body st) rs
check_covered message name body inner st rs h = by_value (value_of st.vars name)
  where
    t : Test
    t = check message name body st

    by_value : (o : Option (List ℕ)) → shared_jobs (made o (owned name [] inner)) ≡ jobs_asked (test_by o t (checking t.message st)) rs
    by_value None =
        let run = body (checking t.message st) in
        shared_owned name [] inner ∙ h ∙ sym (asked_until (guarded name run) _ rs (λ now. tt) ∙ asked_ended (broken name) run rs)
    by_value (Some value) = refl

either_covered : (b : Bool) (p q : List Share) (x y : Run) (rs : List Reply) → shared_jobs p ≡ jobs_asked x rs → shared_jobs q ≡ jobs_asked y rs → shared_jobs (cond b p q) ≡ jobs_asked (cond b x y) rs
either_covered true p q x y rs h k = h
either_covered false p q x y rs h k = k

mutual
  unfolding meaning chosen shares case_shares

  pub shares_are_jobs : SharesAreJobs
  shares_are_jobs Done st rs = refl
  shares_are_jobs (Then d e rest) st rs =
      covered_then (effect_shares d e st rs) (effect e st) (meaning rest) (shares rest) rs (effect_covered d e st rs) (λ now left. shares_are_jobs rest now left)
  shares_are_jobs (Choice d subject cases rest) st rs =
      covered_then (turn_shares (rounds_of subject) (chosen cases) (case_shares cases) st rs) (in_turn (rounds_of subject) (chosen cases) st) (meaning rest) (shares rest) rs
      (turns_covered (rounds_of subject) (chosen cases) (case_shares cases) (λ scope now left. cases_covered cases scope now left) st rs)
      (λ now left. shares_are_jobs rest now left)
  shares_are_jobs (Check message name commands rest) st rs =
      covered_then (made (value_of st.vars name) (owned name [] (shares commands (checking (word_value message st.vars) st) rs))) (checks message name (meaning commands) st) (meaning rest) (shares rest) rs
      (check_covered message name (meaning commands) (shares commands (checking (word_value message st.vars) st) rs) st rs (shares_are_jobs commands (checking (word_value message st.vars) st) rs))
      (λ now left. shares_are_jobs rest now left)

  cases_covered : (cases : Cases) (scope : Scope) (st : State) (rs : List Reply) → shared_jobs (case_shares cases scope st rs) ≡ jobs_asked (chosen cases scope st) rs
  cases_covered No_case scope st rs = refl
  cases_covered (Case when body more) scope st rs =
      either_covered (is_taken when scope st.vars) (shares body st rs) (case_shares more scope st rs) (meaning body st) (chosen more scope st) rs (shares_are_jobs body st rs) (cases_covered more scope st rs)

-- The last words of a run ask for nothing.
asked_last : (run : Run) (before : ℕ) (refused : Option ℕ) (rs : List Reply) → jobs_asked (last_words before refused run) rs ≡ jobs_asked run rs
asked_last (Ends Cut st) before refused rs = refl
asked_last (Ends _ st) before refused rs = refl
asked_last (Asks jobs next) before refused rs =
    let t = take (length jobs) rs in
    ap (λ l. jobs ++ l) (asked_last (next t) (before + length jobs) (first_number refused (refused_after before t)) (drop (length jobs) rs))

pub shares_are_played : SharesArePlayed
shares_are_played script st rs = shares_are_jobs script st rs ∙ sym (asked_last (meaning script st) 0 None rs)
