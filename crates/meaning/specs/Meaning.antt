-- The meaning of statements. It always passes `as_is` for `early`; a plan passes what its open tests do.
use Rattle.std.specs.Prelude.{ℕ, ◌==◌, ◌&&◌, ◌||◌, length, [], ◌∷◌, option_map, Bool, true, false, not, List, Option, Some, None, bytes_eq, codes, if◌then◌else◌, map, unwrap_or}
use Rattle.deftable.specs.Table.{value_of}
use Rattle.shellword.specs.declared.part.Part.{Part}
use Rattle.shellword.specs.Matching.{matches_any}
use Rattle.shellword.specs.Truth.{truth}
use Rattle.shellword.specs.Value.{word_value}
use Rattle.ac_tree.specs.declared.feature.OptionKind.{OptionKind}
use Rattle.ac_tree.specs.declared.feature.OptionKind.TheVariants.{Feature, Package}
use Rattle.ac_tree.specs.declared.listed.Sought.{Sought}
use Rattle.ac_tree.specs.declared.statement.Effect.{Effect}
use Rattle.ac_tree.specs.declared.statement.Effect.TheVariants as effects
use Rattle.ac_tree.specs.declared.statement.Effect.TheVariants.{Assign, Define, DefineText, Print, Stop, Package, Search, Searches, Batch, Complete}
use Rattle.ac_tree.specs.declared.statement.Message.TheVariants.{Error}
use Rattle.ac_tree.specs.declared.statement.ProgramValue.TheVariants.{Text, FullName}
use Rattle.ac_tree.specs.declared.statement.Question as asks
use Rattle.ac_tree.specs.declared.statement.Question.TheVariants as questions
use Rattle.ac_tree.specs.declared.statement.Question.TheVariants.{Given, Tries, Checks, ChecksEach}
use Rattle.ac_tree.specs.declared.tree.Subject.{Subject}
use Rattle.ac_tree.specs.declared.tree.Subject.TheVariants.{Nothing, Word, Asked}
use Rattle.ac_tree.specs.declared.tree.When.{When}
use Rattle.ac_tree.specs.declared.tree.When.TheVariants.{Holds, Matches, Yes, No, Always}
use Rattle.ac_tree.specs.Script.{Script, Done, Then, Choice, Check, Cases, No_case, Case}
use Rattle.ac_tree.specs.TestNames.{program_name, path_name}
use Rattle.meaning.specs.Package.{initialised}
use Rattle.meaning.specs.Messages.{with_message}
use Rattle.meaning.specs.State.{State, Scope, no_choice, about, answered, value_or_empty, with_variable, with_definition, How, as_is, Run, Ends, Goes_on, Completed, Stopped, then_run, ended}
use Rattle.meaning.specs.Rows as rows
use Rattle.meaning.specs.Rows.{Program, Formed, value_if, row_of}
use Rattle.meaning.specs.Forms.{FormTest, form_name, says_found}
use Rattle.meaning.specs.Entries.{sought_test, library_test, search_test, tests_of}
use Rattle.meaning.specs.Batches.{batched}
use Rattle.meaning.specs.Tests.{Test, cached_test, tested}
use Rattle.meaning.specs.Tries.{text_of, tried}

-- The prefix is set, and is still `NONE`. (own)
abbrev pub is_unsettled : Option (List ℕ) → Bool
is_unsettled None = false
is_unsettled (Some value) = bytes_eq value (codes "NONE")

-- A prefix that is `NONE` gets this value; any other stays as it is, and so does an unset one. (Autoconf's manual,
-- "Installation Directory Variables")
abbrev pub settled : List ℕ → List ℕ → State → State
settled name value st = if is_unsettled (value_of st.vars name) then with_variable name value st else st

-- The end of a source: prefix and exec_prefix get their values if they are still `NONE`. (Autoconf's manual,
-- "Installation Directory Variables")
abbrev pub with_prefixes : State → State
with_prefixes st = settled (codes "exec_prefix") (codes "${prefix}") (settled (codes "prefix") (codes "/usr/local") st)

-- AC_CHECK_PROG: the search for a program, with the variable's values if it is found and if it isn't. (Autoconf's
-- manual, "Generic Programs")
abbrev pub check_prog : List ℕ → List ℕ → List ℕ → Option (List ℕ) → rows.Search
check_prog variable program found otherwise =
    record { variable = variable; name = program_name variable; program = program; found = Some found; otherwise = otherwise }

-- AC_PATH_PROG: the value is the program's full name if it is found. (Autoconf's manual, "Generic Programs")
abbrev pub path_prog : List ℕ → List ℕ → Option (List ℕ) → rows.Search
path_prog variable program otherwise =
    record { variable = variable; name = path_name variable; program = program; found = None; otherwise = otherwise }

-- The variable is set, and is not empty. (own)
abbrev pub has_value : State → List ℕ → Bool
has_value st name = not (length (value_or_empty st name) == 0)

-- A slash or a backslash. (own)
abbrev pub is_slash : ℕ → Bool
is_slash b = b == 47 || b == 92

-- The text begins with a slash or a backslash. (own)
abbrev pub starts_slash : List ℕ → Bool
starts_slash [] = false
starts_slash (b ∷ bs) = is_slash b

-- A full name: it begins with a slash or a backslash, or with one byte, a colon and one of these. (own)
abbrev pub is_full_name : List ℕ → Bool
is_full_name [] = false
is_full_name (a ∷ []) = is_slash a
is_full_name (a ∷ b ∷ more) = is_slash a || (b == 58 && starts_slash more)

-- The test of a program; `counts` says whether the variable's own value counts. (Autoconf's manual, "Generic Programs")
abbrev pub program_test : rows.Search → Bool → State → Run
program_test s counts st = tested (row_of (Program s (value_if counts (value_or_empty st s.variable))) st) st

-- One program of several: the first is always looked for, a later one only if the variable is still empty. (Autoconf's
-- manual, "Generic Programs")
abbrev pub looks : List ℕ → List ℕ → Bool → State → Run
looks variable program always st =
    if always || not (has_value st variable)
    then program_test (check_prog variable program program None) (has_value st variable) st
    else Ends Goes_on st

-- Programs, one after the other. (own)
abbrev pub looks_all : List ℕ → List (List ℕ) → Bool → State → Run
looks_all variable [] always st = Ends Goes_on st
looks_all variable (program ∷ more) always st = then_run (looks variable program always st) (looks_all variable more false)

-- A variable that is empty gets its default, if it has one. (Autoconf's manual, "Generic Programs")
abbrev pub defaulted : List ℕ → Option (List ℕ) → State → State
defaulted variable None st = st
defaulted variable (Some value) st = if has_value st variable then st else with_variable variable value st

-- What a statement with no statements in it does: nothing; a variable gets the value of a word; a name is defined as a text,
-- or as the value of one; a message is printed; the line of an error is printed, and the run stops; the package's variables
-- and definitions are set; a program is looked for, or several, one after the other; all entries of a list are tested at
-- once; and prefix and exec_prefix get their values, and the run completes. (Autoconf's manual, the sections of the macros)
unfoldable pub effect : Effect → State → Run
effect effects.Nothing st = Ends Goes_on st
effect (Assign name value) st = Ends Goes_on (with_variable name (word_value value st.vars) st)
effect (Define name value) st = Ends Goes_on (with_definition name value st)
effect (DefineText name value) st = Ends Goes_on (with_definition name (word_value value st.vars) st)
effect (Print message text) st = Ends Goes_on (with_message message (word_value text st.vars) st)
effect (Stop text status) st = Ends (Stopped status) (with_message Error (word_value text st.vars) st)
effect (Package title version bug tarname url) st = Ends Goes_on (initialised title version bug tarname url st)
effect (Search variable program (Text found) otherwise) st =
    program_test (check_prog variable program (word_value found st.vars) (option_map (λ t. word_value t st.vars) otherwise)) (has_value st variable) st
effect (Search variable program FullName otherwise) st =
    program_test (path_prog variable program (option_map (λ t. word_value t st.vars) otherwise)) (is_full_name (value_or_empty st variable)) st
effect (Searches variable programs otherwise) st =
    then_run (looks_all variable programs true st) (λ now. Ends Goes_on (defaulted variable (option_map (λ t. word_value t now.vars) otherwise) now))
effect (Batch listed entries includes) st = batched (tests_of listed entries includes) st
effect Complete st = Ends Completed (with_prefixes st)

-- The variable that gets the value of an option if the option is given. (Autoconf's manual, "Choosing Package Options"
-- and "External Software")
abbrev pub value_name : OptionKind → List ℕ
value_name Feature = codes "enableval"
value_name Package = codes "withval"

-- An option is given if its variable is set. (Autoconf's manual, "Choosing Package Options")
abbrev pub after_option : Option (List ℕ) → OptionKind → State → (Scope → State → Run) → Run
after_option None kind st go = go (answered false) st
after_option (Some value) kind st go = go (answered true) (with_variable (value_name kind) value st)

-- A test as a question: whether it has found what it looks for. (Autoconf's manual, "Existing Tests" and "Library Files")
abbrev pub found_by : (How → State → State) → FormTest → State → (Scope → State → Run) → Run
found_by early t st go =
    then_run (ended early (tested (row_of (Formed t) st) st)) (λ now. go (answered (says_found t.form.says (value_of now.vars (form_name t.form)))) now)

-- The first entry of a list is tested, and what is found is defined. (Autoconf's manual, "Generic Headers" to "Generic
-- Types")
abbrev pub first_found : (How → State → State) → Sought → List (List ℕ) → Option (List Part) → State → (Scope → State → Run) → Run
first_found early sought [] includes st go = go (answered false) st
first_found early sought (entry ∷ more) includes st go = found_by early (sought_test sought entry includes true) st go

-- A question, and how the run continues with the answer: an option is given if its variable is set, a program that is
-- tried passes if its children succeed, and an entry or a library is found by its test. (Autoconf's manual, "Running the
-- Compiler", "Existing Tests" and "Library Files")
abbrev pub after_question : (How → State → State) → asks.Question → State → (Scope → State → Run) → Run
after_question early (Tries kind program) st go = tried early kind (text_of program st.vars) st (λ passed. go (answered passed))
after_question early (Given kind variable) st go = after_option (value_of st.vars variable) kind st go
after_question early (Checks sought entry includes) st go = found_by early (sought_test sought entry includes false) st go
after_question early (ChecksEach sought entries includes) st go = first_found early sought entries includes st go
after_question early (questions.Library library function others adds) st go = found_by early (library_test library function others adds) st go
after_question early (questions.Libraries function libraries others) st go = found_by early (search_test function libraries others) st go

-- A choice begins with its subject: nothing, the value of a word, or the answer to a question; `early` changes the state
-- of a run that ends here. (own)
unfoldable pub after_subject : (How → State → State) → Subject → State → (Scope → State → Run) → Run
after_subject early Nothing st go = go no_choice st
after_subject early (Word word) st go = go (about (word_value word st.vars)) st
after_subject early (Asked question) st go = after_question early question st go

-- The rounds of a question, each a question of its own: a list has one for each entry. (Autoconf's manual, "Generic
-- Headers" to "Generic Types")
abbrev pub rounds_asked : asks.Question → List Subject
rounds_asked (ChecksEach sought entries includes) = map (λ entry. Asked (ChecksEach sought (entry ∷ []) includes)) entries
rounds_asked question = Asked question ∷ []

-- The rounds of a choice, each with a subject of its own. (own)
abbrev pub rounds_of : Subject → List Subject
rounds_of (Asked question) = rounds_asked question
rounds_of subject = subject ∷ []

-- Rounds, one after the other, each with what follows its beginning. (own)
abbrev pub in_turn : List Subject → (Scope → State → Run) → State → Run
in_turn [] go st = Ends Goes_on st
in_turn (subject ∷ more) go st = then_run (after_subject as_is subject st go) (in_turn more go)

-- A case is taken if its test holds, if one of its patterns matches the value of the subject, if it is for the answer,
-- or if it is the default. (Autoconf's manual, "Common Shell Constructs")
unfoldable pub is_taken : When → Scope → List (List ℕ × List ℕ) → Bool
is_taken (Holds test) scope vars = truth test vars
is_taken (Matches patterns) scope vars = matches_any patterns scope.subject
is_taken Yes scope vars = scope.answer
is_taken No scope vars = not scope.answer
is_taken Always scope vars = true

-- AC_CACHE_CHECK: a test whose body is the run of its commands, and which prints its value. (Autoconf's manual, "Caching
-- Results")
abbrev pub check : List Part → List ℕ → (State → Run) → State → Test
check message name body st =
    record { name = name; message = word_value message st.vars; body = body; shown = λ value. unwrap_or value [] }

unfoldable mutual
  -- A list of statements: the first and, if the run continues, those that follow. A choice runs its cases once in each
  -- round. (own)
  pub meaning : Script → State → Run
  meaning Done st = Ends Goes_on st
  meaning (Then declares e rest) st = then_run (effect e st) (meaning rest)
  meaning (Choice declares subject cases rest) st = then_run (in_turn (rounds_of subject) (chosen cases) st) (meaning rest)
  meaning (Check message name commands rest) st = then_run (cached_test (check message name (meaning commands) st) st) (meaning rest)

  -- The statements of the first case that is taken, if any. (own)
  pub chosen : Cases → Scope → State → Run
  chosen No_case scope st = Ends Goes_on st
  chosen (Case when body more) scope st = if is_taken when scope st.vars then meaning body st else chosen more scope st
