-- What the deeds of a run account for.
use Rattle.std.proofs.Common.{◌≡◌, ℕ, Option, Some, None, List, [], ◌∷◌, ◌++◌, length, take, drop, codes, Bool, true, false, cond, refl, sym, subst, ◌+◌}
use Rattle.std.specs.Prelude.{◌||◌, not, option_map}
use Rattle.crew_jobs.specs.declared.job.Job.{Job}
use Rattle.crew_jobs.specs.Probe.{run_of, job_of}
use Rattle.crew_trait.specs.declared.reply.Reply.{Reply}
use Rattle.deftable.specs.Table.{value_of}
use Rattle.shellword.specs.declared.part.Part.{Part}
use Rattle.shellword.specs.Value.{word_value}
use Rattle.ac_tree.specs.declared.feature.OptionKind.{OptionKind}
use Rattle.ac_tree.specs.declared.listed.Sought.{Sought}
use Rattle.ac_tree.specs.declared.program.Try as kinds
use Rattle.ac_tree.specs.declared.program.Try.TheVariants as kinds_are
use Rattle.ac_tree.specs.declared.statement.Effect.{Effect}
use Rattle.ac_tree.specs.declared.statement.Effect.TheVariants as effects
use Rattle.ac_tree.specs.declared.statement.Effect.TheVariants.{Assign, Package, Search, Searches, Complete}
use Rattle.ac_tree.specs.declared.statement.ProgramValue.TheVariants.{Text, FullName}
use Rattle.ac_tree.specs.declared.statement.Question.TheVariants as questions
use Rattle.ac_tree.specs.declared.statement.Question.TheVariants.{Given, Tries, Checks, ChecksEach}
use Rattle.ac_tree.specs.declared.tree.Subject.{Subject}
use Rattle.ac_tree.specs.declared.tree.Subject.TheVariants.{Nothing, Word, Asked}
use Rattle.ac_tree.specs.Commands.{AreCommands, HasCommands, HasCommandsIn}
use Rattle.ac_tree.specs.Script.{Script, Done, Then, Choice, Check, Cases, No_case, Case}
use Rattle.meaning.specs.State.{State, Scope, no_choice, about, answered, Goes_on, Completed, Cut, Run, Ends, Asks, then_run, ended, as_is, with_child, with_variable, value_or_empty}
use Rattle.meaning.specs.Asking.{success, only_reply, after_child, child, compiled}
use Rattle.meaning.specs.Tests.{checking, cached_test, tested}
use Rattle.meaning.specs.Forms.{FormTest, form_name, says_found}
use Rattle.meaning.specs.Entries.{sought_test, library_test, search_test, tests_of}
use Rattle.meaning.specs.Rows.{Program, Formed, value_if, row_of}
use Rattle.meaning.proofs.Batches.{entries_are}
use Rattle.meaning.specs.Package.{package_string, initialised}
use Rattle.meaning.specs.Play.{play, first_number, refused_after, last_words}
use Rattle.meaning.specs.Tries.{first_probe, after_first, text_of}
use Rattle.meaning.specs.Meaning.{settled, is_unsettled, has_value, check_prog, looks, looks_all, defaulted, effect, value_name, after_option, found_by, first_found, after_subject, rounds_of, in_turn, is_taken, check, meaning, chosen}
use Rattle.meaning_laws.specs.Ends.{AtEnds}
use Rattle.meaning_laws.specs.Commands.{WritesOwn}
use Rattle.meaning_laws.specs.Questions.{yes_or_no}
use Rattle.meaning_laws.specs.Deeds.{Deed, Assigned, kind_deeds, look_deeds, looks_deeds, default_deeds, prefix_deeds, effect_deeds, given_deeds, first_deeds, deeds_answered, subject_deeds, turn_deeds, left_set, check_deeds, deeds, case_deeds, Accounts, DeedsAccount}
use Rattle.meaning_laws.proofs.Endings.{ends_map}
use Rattle.meaning_laws.proofs.CommandLemmas.{OwnOnly, commands_write_alone}
use Rattle.meaning_laws.proofs.DeedLemmas.{Variables, joined, nothing, unchanged, ended_there, writes, writes_more, ends_account, Follow, then_accounts}
use Rattle.meaning_laws.proofs.TestDeeds.{set_deeds, CachedEnds, cached_ends, kind_accounts, IsOpen, tested_open}
use Rattle.meaning_laws.proofs.BatchDeeds.{batch_accounts}
use Rattle.meaning_laws.proofs.Plays.{line_vars}

-- Statements.
either_run : (b : Bool) (before : Variables) (p q : List Deed) (x y : Run) (rs : List Reply) → Accounts before p (play x rs).state.vars → Accounts before q (play y rs).state.vars → Accounts before (cond b p q) (play (cond b x y) rs).state.vars
either_run true before p q x y rs h k = h
either_run false before p q x y rs h k = k

look_accounts : (variable program : List ℕ) (always : Bool) (st : State) (rs : List Reply) → Accounts st.vars (look_deeds variable program always st rs) (play (looks variable program always st) rs).state.vars
look_accounts variable program always st rs =
    let s = check_prog variable program program None in
    let kind = Program s (value_if (has_value st variable) (value_or_empty st s.variable)) in
    either_run (always || not (has_value st variable)) st.vars (kind_deeds kind st rs) [] (tested (row_of kind st) st) (Ends Goes_on st) rs (kind_accounts kind st rs) (nothing st.vars)

looks_account : (variable : List ℕ) (programs : List (List ℕ)) (always : Bool) → Follow (looks_all variable programs always) (looks_deeds variable programs always)
looks_account variable [] always st rs = nothing st.vars
looks_account variable (program ∷ more) always st rs =
    then_accounts (looks variable program always st) rs st.vars (look_deeds variable program always st rs) (looks_all variable more false) (looks_deeds variable more false)
    (look_accounts variable program always st rs) (looks_account variable more false)

default_by : (b : Bool) (variable value : List ℕ) (st : State) → Accounts st.vars (cond b [] (Assigned variable ∷ [])) (cond b st (with_variable variable value st)).vars
default_by true variable value st = nothing st.vars
default_by false variable value st = writes st.vars variable value

default_accounts : (variable : List ℕ) (word : Option (List Part)) (st : State) → Accounts st.vars (default_deeds variable word st) (defaulted variable (option_map (λ t. word_value t st.vars) word) st).vars
default_accounts variable None st = nothing st.vars
default_accounts variable (Some word) st = default_by (has_value st variable) variable (word_value word st.vars) st

prefix_by : (b : Bool) (name value : List ℕ) (st : State) → Accounts st.vars (cond b (Assigned name ∷ []) []) (cond b (with_variable name value st) st).vars
prefix_by true name value st = writes st.vars name value
prefix_by false name value st = nothing st.vars

prefix_accounts : (name value : List ℕ) (st : State) → Accounts st.vars (prefix_deeds name st) (settled name value st).vars
prefix_accounts name value st = prefix_by (is_unsettled (value_of st.vars name)) name value st

effect_accounts : (e : Effect) (st : State) (rs : List Reply) → Accounts st.vars (effect_deeds e st rs) (play (effect e st) rs).state.vars
unfolding effect effect_deeds initialised
effect_accounts (Assign name value) st rs = writes st.vars name (word_value value st.vars)
effect_accounts (Package title version bug tarname url) st rs =
    writes_more st.vars _ _ (codes "PACKAGE_URL") url (writes_more st.vars _ _ (codes "PACKAGE_BUGREPORT") bug (writes_more st.vars _ _ (codes "PACKAGE_STRING") (package_string title version)
    (writes_more st.vars _ _ (codes "PACKAGE_VERSION") version (writes_more st.vars _ _ (codes "PACKAGE_TARNAME") tarname (writes st.vars (codes "PACKAGE_NAME") title)))))
effect_accounts (Search variable program (Text found) otherwise) st rs = kind_accounts (Program _ _) st rs
effect_accounts (Search variable program FullName otherwise) st rs = kind_accounts (Program _ _) st rs
effect_accounts (Searches variable programs otherwise) st rs =
    then_accounts (looks_all variable programs true st) rs st.vars (looks_deeds variable programs true st rs) _ (λ now left. default_deeds variable otherwise now)
    (looks_account variable programs true st rs) (λ now left. default_accounts variable otherwise now)
effect_accounts (effects.Batch listed entries includes) st rs = batch_accounts (tests_of listed entries includes) (entries_are listed entries includes) st rs
effect_accounts Complete st rs =
    let first = settled (codes "prefix") (codes "/usr/local") st in
    joined st.vars first.vars (settled (codes "exec_prefix") (codes "${prefix}") first).vars (prefix_deeds (codes "prefix") st) (prefix_deeds (codes "exec_prefix") first)
    (prefix_accounts (codes "prefix") (codes "/usr/local") st) (prefix_accounts (codes "exec_prefix") (codes "${prefix}") first)
effect_accounts _ st rs = nothing st.vars

-- Choices.
abbrev FollowChoice : (Scope → State → Run) → (Scope → State → List Reply → List Deed) → Type 0
FollowChoice go did = (scope : Scope) → Follow (go scope) (did scope)

given_accounts : (o : Option (List ℕ)) (kind : OptionKind) (st : State) (rs : List Reply) (go : Scope → State → Run) (did : Scope → State → List Reply → List Deed) → FollowChoice go did
    → Accounts st.vars (given_deeds o kind ++ deeds_answered (after_option o kind st yes_or_no) rs did) (play (after_option o kind st go) rs).state.vars
given_accounts None kind st rs go did y = y (answered false) st rs
given_accounts (Some value) kind st rs go did y =
    let now = with_variable (value_name kind) value st in
    joined st.vars now.vars (play (go (answered true) now) rs).state.vars (Assigned (value_name kind) ∷ []) (did (answered true) now rs)
    (writes st.vars (value_name kind) value) (y (answered true) now rs)

-- What follows a question accounts, however it is answered.
abbrev Answers : Variables → (Scope → State → List Reply → List Deed) → Run → Run → Type 0
Answers before did asking run = (rs : List Reply) → Accounts before (deeds_answered asking rs did) (play run rs).state.vars

heard_answers : (did : Scope → State → List Reply → List Deed) (answer : Option Bool) (st : State) (f g : Bool → State → Run) → ((b : Bool) (now : State) → Answers now.vars did (f b now) (g b now)) → Answers st.vars did (after_child as_is answer st f) (after_child as_is answer st g)
heard_answers did None st f g k = λ rs. nothing st.vars
heard_answers did (Some b) st f g k = k b st

child_answers : (did : Scope → State → List Reply → List Deed) (job : Job) (st : State) (f g : Bool → State → Run) → ((b : Bool) (now : State) → Answers now.vars did (f b now) (g b now)) → Answers st.vars did (child as_is job st f) (child as_is job st g)
child_answers did job st f g k =
    λ rs.
    let reply = only_reply (take (length (job ∷ [])) rs) in
    heard_answers did (success reply) (with_child job reply st) f g k (drop (length (job ∷ [])) rs)

compiled_answers : (did : Scope → State → List Reply → List Deed) (job : Option Job) (st : State) (f g : Bool → State → Run) → ((b : Bool) (now : State) → Answers now.vars did (f b now) (g b now)) → Answers st.vars did (compiled as_is job st f) (compiled as_is job st g)
compiled_answers did None st f g k = λ rs. nothing st.vars
compiled_answers did (Some job) st f g k = child_answers did job st f g k

first_answers : (did : Scope → State → List Reply → List Deed) (kind : kinds.Try) (f g : Bool → State → Run) → ((b : Bool) (now : State) → Answers now.vars did (f b now) (g b now)) → (b : Bool) (st : State) → Answers st.vars did (after_first as_is kind f b st) (after_first as_is kind g b st)
first_answers did kinds_are.Run f g k true st = child_answers did (run_of 0) st f g k
first_answers did kinds_are.Run f g k false st = k false st
first_answers did kinds_are.Compile f g k b st = k b st
first_answers did kinds_are.Link f g k b st = k b st
first_answers did kinds_are.Preproc f g k b st = k b st

either_answers : (did : Scope → State → List Reply → List Deed) (go : Scope → State → Run) → FollowChoice go did → (b : Bool) (now : State) → Answers now.vars did (yes_or_no (answered b) now) (go (answered b) now)
either_answers did go y true now = λ left. y (answered true) now left
either_answers did go y false now = λ left. y (answered false) now left

-- The question of a test.
answer_accounts : (b : Bool) (st : State) (rs : List Reply) (before : Variables) (a : List Deed) (go : Scope → State → Run) (did : Scope → State → List Reply → List Deed) → Accounts before a st.vars → FollowChoice go did
    → Accounts before (a ++ deeds_answered (yes_or_no (answered b) st) rs did) (play (go (answered b) st) rs).state.vars
answer_accounts true st rs before a go did x y = joined before st.vars (play (go (answered true) st) rs).state.vars a (did (answered true) st rs) x (y (answered true) st rs)
answer_accounts false st rs before a go did x y = joined before st.vars (play (go (answered false) st) rs).state.vars a (did (answered false) st rs) x (y (answered false) st rs)

run_accounts : (r : Run) (rs : List Reply) (before : Variables) (a : List Deed) (f : State → Bool) (go : Scope → State → Run) (did : Scope → State → List Reply → List Deed) → AtEnds (λ how now. IsOpen how) r
    → Accounts before a (play r rs).state.vars → FollowChoice go did
    → Accounts before (a ++ deeds_answered (then_run (ended as_is r) (λ now. yes_or_no (answered (f now)) now)) rs did) (play (then_run (ended as_is r) (λ now. go (answered (f now)) now)) rs).state.vars
run_accounts (Ends Goes_on st) rs before a f go did runs x y = answer_accounts (f st) st rs before a go did x y
run_accounts (Ends Completed st) rs before a f go did runs x y = absurd (runs refl)
run_accounts (Ends _ st) rs before a f go did runs x y = ended_there before st.vars a x
run_accounts (Asks jobs ask) rs before a f go did runs x y =
    run_accounts (ask (take (length jobs) rs)) (drop (length jobs) rs) before a f go did (runs (take (length jobs) rs)) x y

found_accounts : (t : FormTest) (st : State) (rs : List Reply) (go : Scope → State → Run) (did : Scope → State → List Reply → List Deed) → FollowChoice go did
    → Accounts st.vars (kind_deeds (Formed t) st rs ++ deeds_answered (found_by as_is t st yes_or_no) rs did) (play (found_by as_is t st go) rs).state.vars
found_accounts t st rs go did y =
    run_accounts (tested (row_of (Formed t) st) st) rs st.vars (kind_deeds (Formed t) st rs) (λ now. says_found t.form.says (value_of now.vars (form_name t.form))) go did (tested_open (Formed t) st) (kind_accounts (Formed t) st rs) y

first_accounts : (sought : Sought) (entries : List (List ℕ)) (includes : Option (List Part)) (st : State) (rs : List Reply) (go : Scope → State → Run) (did : Scope → State → List Reply → List Deed) → FollowChoice go did
    → Accounts st.vars (first_deeds sought entries includes st rs ++ deeds_answered (first_found as_is sought entries includes st yes_or_no) rs did) (play (first_found as_is sought entries includes st go) rs).state.vars
first_accounts sought [] includes st rs go did y = y (answered false) st rs
first_accounts sought (entry ∷ more) includes st rs go did y = found_accounts (sought_test sought entry includes true) st rs go did y

subject_accounts : (subject : Subject) (st : State) (rs : List Reply) (go : Scope → State → Run) (did : Scope → State → List Reply → List Deed) → FollowChoice go did
    → Accounts st.vars (subject_deeds subject st rs did) (play (after_subject as_is subject st go) rs).state.vars
unfolding after_subject
subject_accounts Nothing st rs go did y = y no_choice st rs
subject_accounts (Word word) st rs go did y = y (about (word_value word st.vars)) st rs
subject_accounts (Asked (Given kind variable)) st rs go did y = given_accounts (value_of st.vars variable) kind st rs go did y
subject_accounts (Asked (Tries kind program)) st rs go did y =
    compiled_answers did (job_of (first_probe kind (text_of program st.vars)) 0 st.vars st.defs) st _ _
    (first_answers did kind (λ b. yes_or_no (answered b)) (λ b. go (answered b)) (either_answers did go y)) rs
subject_accounts (Asked (Checks sought entry includes)) st rs go did y = found_accounts (sought_test sought entry includes false) st rs go did y
subject_accounts (Asked (ChecksEach sought entries includes)) st rs go did y = first_accounts sought entries includes st rs go did y
subject_accounts (Asked (questions.Library library function others adds)) st rs go did y = found_accounts (library_test library function others adds) st rs go did y
subject_accounts (Asked (questions.Libraries function libraries others)) st rs go did y = found_accounts (search_test function libraries others) st rs go did y

turns_account : (rounds : List Subject) (go : Scope → State → Run) (did : Scope → State → List Reply → List Deed) → FollowChoice go did → Follow (in_turn rounds go) (turn_deeds rounds go did)
turns_account [] go did y st rs = nothing st.vars
turns_account (subject ∷ more) go did y st rs =
    then_accounts (after_subject as_is subject st go) rs st.vars (subject_deeds subject st rs did) (in_turn more go) (turn_deeds more go did) (subject_accounts subject st rs go did y) (turns_account more go did y)

-- AC_CACHE_CHECK.
check_accounts : (message : List Part) (name : List ℕ) (commands : Script) (st : State) (rs : List Reply) → AreCommands name commands
    → Accounts st.vars (check_deeds name st (cached_test (check message name (meaning commands) st) st) rs) (play (cached_test (check message name (meaning commands) st) st) rs).state.vars
check_accounts message name commands st rs a =
    let t = check message name (meaning commands) st in
    let begins = checking t.message st in
    ends_account (λ how now. CachedEnds name st.vars how now.vars) (cached_test t st) rs st.vars (λ now. left_set name (value_of st.vars name) (value_of now.vars name))
    (cached_ends t st (ends_map (λ how now. OwnOnly name st now) (λ how now. WritesOwn name st.vars now.vars) (meaning commands begins) (commands_write_alone commands name a begins) (λ how now h. h.0)))
    (λ now c. set_deeds name st.vars now.vars c.own)
    (λ how now breaks c. unchanged st.vars now.vars (c.breaks breaks))

-- All statements.
mutual
  unfolding meaning chosen deeds case_deeds

  meaning_accounts : (script : Script) (st : State) (rs : List Reply) → HasCommands script → Accounts st.vars (deeds script st rs) (play (meaning script st) rs).state.vars
  meaning_accounts Done st rs c = nothing st.vars
  meaning_accounts (Then declares e rest) st rs c =
      then_accounts (effect e st) rs st.vars (effect_deeds e st rs) (meaning rest) (deeds rest) (effect_accounts e st rs) (λ now left. meaning_accounts rest now left c)
  meaning_accounts (Choice declares subject cases rest) st rs c =
      then_accounts (in_turn (rounds_of subject) (chosen cases) st) rs st.vars (turn_deeds (rounds_of subject) (chosen cases) (case_deeds cases) st rs) (meaning rest) (deeds rest)
      (turns_account (rounds_of subject) (chosen cases) (case_deeds cases) (λ scope now left. case_accounts cases scope now left c.0) st rs)
      (λ now left. meaning_accounts rest now left c.1)
  meaning_accounts (Check message name commands rest) st rs c =
      then_accounts (cached_test (check message name (meaning commands) st) st) rs st.vars _ (meaning rest) (deeds rest)
      (check_accounts message name commands st rs c.1.0)
      (λ now left. meaning_accounts rest now left c.1.1)

  case_accounts : (cases : Cases) (scope : Scope) (st : State) (rs : List Reply) → HasCommandsIn cases → Accounts st.vars (case_deeds cases scope st rs) (play (chosen cases scope st) rs).state.vars
  case_accounts No_case scope st rs c = nothing st.vars
  case_accounts (Case when body more) scope st rs c =
      either_run (is_taken when scope st.vars) st.vars (deeds body st rs) (case_deeds more scope st rs) (meaning body st) (chosen more scope st) rs (meaning_accounts body st rs c.0) (case_accounts more scope st rs c.1)

last_vars : (before : ℕ) (refused : Option ℕ) (r : Run) (rs : List Reply) → (play (last_words before refused r) rs).state.vars ≡ (play r rs).state.vars
last_vars before refused (Ends Cut st) rs = line_vars refused st
last_vars before refused (Ends _ st) rs = refl
last_vars before refused (Asks jobs ask) rs =
    last_vars (before + length jobs) (first_number refused (refused_after before (take (length jobs) rs))) (ask (take (length jobs) rs)) (drop (length jobs) rs)

pub deeds_account : DeedsAccount
deeds_account script st rs c = subst (Accounts st.vars (deeds script st rs)) (sym (last_vars 0 None (meaning script st) rs)) (meaning_accounts script st rs c)
