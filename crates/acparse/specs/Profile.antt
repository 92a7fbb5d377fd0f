-- The statements of a source, or its first error, as one function of its text. It says which of two errors of one item
-- is reported; `Source` says what a tree and an error are, in no order of reading.
use Rattle.std.specs.Prelude.{◌≡◌, ℕ, zero, suc, Bool, true, false, List, [], ◌∷◌, drop, Option, Some, None, Result, Ok, Err, if◌then◌else◌}
use Rattle.m4quote.specs.ItemValue.{Span, ItemValue, call, bare}
use Rattle.m4quote.specs.Scan.{outcome}
use Rattle.ac_statement.specs.declared.fault.ParseFault.{ParseFault}
use Rattle.ac_statement.specs.declared.fault.ParseFault.TheVariants.{UnknownMacro, UnknownStatement, ArgCount, NoInit, NoOutput, TooDeep}
use Rattle.ac_statement.specs.declared.placement.LineStart.{LineStart}
use Rattle.ac_args.specs.Arguments.{cache_name, is_given}
use Rattle.ac_statement.specs.Texts.{arg_at}
use Rattle.ac_statement.specs.Inside.{inside}
use Rattle.ac_statement.specs.Reading.{◌>>=◌, wants, quoted}
use Rattle.ac_args.specs.Shell.{word, here_text, shell_test, patterns}
use Rattle.ac_statement.specs.Stand.{line_start_of, no_line_start, is_statement}
use Rattle.ac_macros.specs.Arguments.{first_action}
use Rattle.ac_macros.specs.declared.macros.ChoiceMacro.{ChoiceMacro}
use Rattle.ac_macros.specs.declared.macros.ChoiceMacro.TheVariants.{If, Case as As_case}
use Rattle.ac_macros.specs.declared.macros.Macro.{Macro}
use Rattle.ac_macros.specs.declared.macros.Macro.TheVariants.{Plain, Choice as A_choice, Question as A_question, Check as A_check}
use Rattle.ac_macros.specs.declared.table.Row.{Row}
use Rattle.ac_macros.specs.declared.macros.QuestionMacro.{QuestionMacro}
use Rattle.ac_tree.specs.declared.declarations.Stage.{Stage}
use Rattle.ac_tree.specs.declared.declarations.Stage.TheVariants.{Before, Open, Ended}
use Rattle.ac_tree.specs.declared.declarations.Declarations as declarations
use Rattle.ac_macros.specs.Rows.{plain_of, question_of}
use Rattle.ac_tree.specs.Lists.{start, after}
use Rattle.ac_macros.specs.Placement.{as_statement, placed}
use Rattle.ac_macros.specs.ListKind.{ListKind, Top, Commands, is_top, of_case, may_hold}
use Rattle.ac_macros.specs.Table.{row_named, takes}
use Rattle.ac_tree.specs.declared.statement.Declares.TheVariants as declares
use Rattle.ac_tree.specs.declared.tree.Subject.{Subject}
use Rattle.ac_tree.specs.declared.tree.Subject.TheVariants.{Nothing, Word}
use Rattle.ac_tree.specs.declared.tree.When.{When}
use Rattle.ac_tree.specs.declared.tree.When.TheVariants.{Holds, Matches, Yes, No, Always}
use Rattle.ac_tree.specs.Lists.{after_all, after_cases}
use Rattle.ac_tree.specs.Script.{Script, Done, Then, Choice, Check, Cases, No_case, Case, joined, followed}
use Rattle.acparse.specs.Asked.{asked_with}
use Rattle.acparse.specs.Bare.{bare_of}

-- A reader of statement arguments: what has been declared before one, the argument, and its statements. (own)
abbrev pub Bodies : Type 0
Bodies = declarations.Declarations → Span → Result Script ParseFault

-- Statements were read and appended to a list, and what they declare was added. (own)
pub record Adds (before following : declarations.Declarations) (old new : Script) (read : Result Script ParseFault) : Type 0 where
  pub first : Script
  pub value : read ≡ Ok first
  pub list : new ≡ joined old first
  pub known : following ≡ after_all before first

-- Statements, and those that are read after them. (own)
abbrev pub following : Script → Result Script ParseFault → Result Script ParseFault
following front read = read >>= λ s. Ok (joined front s)

-- ---- choices

-- The condition of a case: the test of AS_IF, the patterns of AS_CASE. (Autoconf's manual, "Common Shell Constructs")
unfoldable pub when_of : ChoiceMacro → Span → Result When ParseFault
when_of If arg = shell_test arg >>= λ t. Ok (Holds t)
when_of As_case arg = patterns arg >>= λ p. Ok (Matches p)

-- The subject of a choice: the word of AS_CASE, or nothing for AS_IF. (Autoconf's manual, "Common Shell Constructs")
unfoldable pub subject_of : ChoiceMacro → List Span → Result Subject ParseFault
subject_of If args = Ok Nothing
subject_of As_case args = word (arg_at args 0) >>= λ w. Ok (Word w)

-- The arguments that make cases. (Autoconf's manual, "Common Shell Constructs")
abbrev pub case_args : ChoiceMacro → List Span → List Span
case_args If args = args
case_args As_case args = drop 1 args

-- No statement. (own)
abbrev pub is_done : Script → Bool
is_done Done = true
is_done (Then declares effect rest) = false
is_done (Choice declares subject cases rest) = false
is_done (Check message name commands rest) = false

-- A case with these statements, unless its argument is absent or empty and has no statement. (own)
abbrev pub case_if : When → Bool → Script → Cases
case_if when given body = if given then Case when body No_case else (if is_done body then No_case else Case when body No_case)

-- The cases of arguments: conditions and statements in pairs, and at the end a default alone. (Autoconf's manual,
-- "Common Shell Constructs")
unfoldable pub cases_in : Bodies → ChoiceMacro → declarations.Declarations → List Span → Result Cases ParseFault
cases_in bodies m c [] = Ok No_case
cases_in bodies m c (b ∷ []) = bodies c b >>= λ body. Ok (case_if Always (is_given b) body)
cases_in bodies m c (w ∷ a ∷ more) = do
  when ← when_of m w
  body ← bodies c a
  others ← cases_in bodies m (after_all c body) more
  Ok (Case when body others)

-- A case, from its condition and its statement argument. (own)
unfoldable pub case_of : Bodies → ChoiceMacro → declarations.Declarations → Span → Span → Result Cases ParseFault
case_of bodies m c w a = do
  when ← when_of m w
  body ← bodies c a
  Ok (Case when body No_case)

-- AS_IF(test, statements, [test, statements].., [default]), AS_CASE(word, patterns, statements, .., [default]).
-- (Autoconf's manual, "Common Shell Constructs")
unfoldable pub choice_of : Bodies → ChoiceMacro → declarations.Declarations → List Span → Result Script ParseFault
choice_of bodies m c args = do
  subject ← subject_of m args
  cases ← cases_in bodies m c (case_args m args)
  Ok (Choice declares.Nothing subject cases Done)

-- ---- questions

-- The arguments after those of the question: the statements for yes, and those for no. (own)
abbrev pub action_args : QuestionMacro → List Span → List Span
action_args m args = drop (first_action m) args

-- The case of the first of these arguments, if there is one. (own)
unfoldable pub action_in : Bodies → When → declarations.Declarations → List Span → Result Cases ParseFault
action_in bodies when c [] = Ok No_case
action_in bodies when c (a ∷ more) = bodies c a >>= λ body. Ok (case_if when (is_given a) body)

-- The condition of the case for an answer. (own)
abbrev pub answer : Bool → When
answer true = Yes
answer false = No

-- The cases for yes and for no, without those that are absent. (own)
unfoldable pub answers_in : Bodies → declarations.Declarations → List Span → Result Cases ParseFault
answers_in bodies c args = do
  first ← action_in bodies Yes c args
  other ← action_in bodies No (after_cases c first) (drop 1 args)
  Ok (followed first other)

-- AC_ARG_ENABLE(feature, help, [for yes], [for no]) and AC_ARG_WITH; AC_COMPILE_IFELSE(program, [for yes], [for no]),
-- AC_LINK_IFELSE, AC_PREPROC_IFELSE and AC_RUN_IFELSE; AC_CHECK_HEADER(header, [for yes], [for no], [includes]) and its kin,
-- and AC_CHECK_HEADERS(headers, ..) and its kin; AC_CHECK_LIB(library, function, [for yes], [for no], [others]) and
-- AC_SEARCH_LIBS. (Autoconf's manual, "Choosing Package Options", "Running the Compiler" and "Existing Tests")
unfoldable pub asked_of : Bodies → QuestionMacro → declarations.Declarations → List Span → Result Script ParseFault
asked_of bodies m c args = do
  asked ← question_of c m args
  first ← action_in bodies Yes (after c asked.0) (action_args m args)
  other ← action_in bodies No (after_cases (after c asked.0) first) (drop 1 (action_args m args))
  asked_with asked.0 asked.1 (followed first other) args

-- ---- checks

-- AC_CACHE_CHECK(message, name, commands). (Autoconf's manual, "Caching Results")
unfoldable pub check_of : (ListKind → Bodies) → declarations.Declarations → List Span → Result Script ParseFault
check_of bodies c args = do
  message ← here_text (arg_at args 0)
  name ← cache_name (arg_at args 1)
  commands ← bodies (Commands name (arg_at args 2).at) c (arg_at args 2)
  Ok (Check message name commands Done)

-- ---- items

-- The row of a macro's name, which is at this offset. (own)
abbrev pub known : ℕ → Option Row → Result Row ParseFault
known at None = Err (UnknownMacro at)
known at (Some row) = Ok row

-- The macro of a call between what precedes it and the items after it. The conditions are checked in this order: its
-- name is known, it takes these arguments, its calls are statements, one is allowed here, this one is separate from other
-- text, and the list may hold it. (own)
unfoldable pub checked : ListKind → Stage → LineStart → List ℕ → List Span → ℕ → List ItemValue → Result Macro ParseFault
checked list_kind stage line_start name args at following = do
  row ← known at (row_named name)
  _ ← wants (takes row args) (ArgCount at)
  m ← as_statement stage at row.named
  _ ← placed (is_top list_kind) stage row.top m at
  _ ← wants (is_statement line_start name args at following) (UnknownStatement at)
  _ ← may_hold list_kind m
  Ok m

-- The statement of a call of a macro with its name at this offset. (own)
abbrev pub call_of : ListKind → (ListKind → Bodies) → declarations.Declarations → Macro → ℕ → List Span → Result Script ParseFault
call_of list_kind bodies c (Plain m) at args = do
  s ← plain_of c m at args
  Ok (Then s.0 s.1 Done)
call_of list_kind bodies c (A_choice m) at args = choice_of (bodies (of_case list_kind)) m c args
call_of list_kind bodies c (A_question m) at args = asked_of (bodies (of_case list_kind)) m c args
call_of list_kind bodies c A_check at args = check_of bodies c args

-- The statements of an item between what precedes it and the items after it. (own)
abbrev pub item_of : ListKind → (ListKind → Bodies) → declarations.Declarations → LineStart → ItemValue → List ItemValue → Result Script ParseFault
item_of list_kind bodies c line_start (bare text at) following = bare_of list_kind c.stage at text
item_of list_kind bodies c line_start (call name args at) following = do
  m ← checked list_kind c.stage line_start name args at following
  call_of list_kind bodies c m at args

-- The statements of items, one after another. (own)
unfoldable pub items_of : ListKind → (ListKind → Bodies) → declarations.Declarations → LineStart → List ItemValue → Result Script ParseFault
items_of list_kind bodies c line_start [] = Ok Done
items_of list_kind bodies c line_start (item ∷ items) = do
  first ← item_of list_kind bodies c line_start item items
  rest ← items_of list_kind bodies (after_all c first) (line_start_of item) items
  Ok (joined first rest)

-- The statements of an argument in which lists nest at most room deep, counting its own. (own)
unfoldable pub body_of : (room : ℕ) → ListKind → Bodies
body_of zero list_kind c arg = Err (TooDeep arg.at)
body_of (suc room) list_kind c arg = do
  a ← inside arg
  items ← quoted (outcome a.at a.text)
  items_of list_kind (body_of room) c no_line_start items

-- ---- a source

-- The statements of a source at its end. (own)
abbrev pub ended : Stage → Script → Result Script ParseFault
ended Before s = Err NoInit
ended Open s = Err NoOutput
ended Ended s = Ok s

-- The statements of the items of a source: within its own list, lists nest at most 31 deep. (own)
abbrev pub source_read : List ItemValue → Result Script ParseFault
source_read items = do
  s ← items_of Top (body_of 31) start no_line_start items
  ended (after_all start s).stage s

-- The statements of a source. (own)
unfoldable pub source_of : List ℕ → Result Script ParseFault
source_of text = do
  items ← quoted (outcome 0 text)
  source_read items
