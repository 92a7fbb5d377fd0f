-- The variable of each program that is looked for is a shell name.
use Rattle.std.proofs.Common.{◌≡◌, ℕ, zero, suc, Bool, true, false, cond, List, [], ◌∷◌, length, Result, Ok, Err, refl, subst}
use Rattle.std.specs.Prelude.{Option, IfOk, nat_lt}
use Rattle.shell_bare.specs.declared.assignments.Assignment.{Assignment}
use Rattle.m4quote.specs.ItemValue.{Span}
use Rattle.m4quote.specs.ItemValue as items
use Rattle.deftable.specs.ShellName.{is_shell_name_of, IsShellName}
use Rattle.shellword.specs.declared.part.Part.{Part}
use Rattle.ac_statement.specs.declared.fault.ParseFault.{ParseFault}
use Rattle.ac_statement.specs.declared.fault.ParseFault.TheVariants.{BadName, TooMany}
use Rattle.ac_statement.specs.declared.placement.LineStart.{LineStart}
use Rattle.ac_statement.specs.Reading.{◌>>=◌, Gives, wants}
use Rattle.ac_statement.specs.Texts.{arg_at}
use Rattle.ac_args.specs.Arguments as arguments
use Rattle.ac_args.specs.Arguments.{is_given, line, name, text, title}
use Rattle.ac_args.specs.Numbers.{language, status, version}
use Rattle.ac_args.specs.Programs.{program, programs}
use Rattle.ac_args.specs.Shell.{word, here_text}
use Rattle.ac_macros.specs.declared.macros.ChoiceMacro.{ChoiceMacro}
use Rattle.ac_macros.specs.declared.macros.ActMacro.{ActMacro}
use Rattle.ac_macros.specs.declared.macros.ActMacro.TheVariants as acts
use Rattle.ac_macros.specs.declared.macros.DeclaringMacro.{DeclaringMacro}
use Rattle.ac_macros.specs.declared.macros.DeclaringMacro.TheVariants as macro
use Rattle.ac_macros.specs.declared.macros.PlainMacro.{PlainMacro}
use Rattle.ac_macros.specs.declared.macros.PlainMacro.TheVariants as plain
use Rattle.ac_macros.specs.Room.{has_room}
use Rattle.ac_macros.specs.Rows.{plain_of, act_of, declaring_of, undeclared, init, tarname, prereq, lang, outputs_of, config_outputs, subst as subst_row, assigned, defined, define, unquoted_of, unquoted, define_unquoted, msg_error, message_of, arg_var}
use Rattle.ac_macros.specs.ListKind.{ListKind, Top, of_case}
use Rattle.ac_macros.specs.Searches.{has_tool_room, output_variable, optional_text, searched, compilers, check_prog, check_progs, path_prog, prog_cc}
use Rattle.ac_tree.specs.declared.declarations.Declarations as declarations
use Rattle.ac_tree.specs.declared.declarations.Stage.{Stage}
use Rattle.ac_tree.specs.declared.statement.Declares.{Declares}
use Rattle.ac_tree.specs.declared.statement.Effect.{Effect}
use Rattle.ac_tree.specs.declared.statement.Effect.TheVariants.{Search, Searches}
use Rattle.ac_tree.specs.declared.statement.ProgramValue.TheVariants.{FullName}
use Rattle.ac_tree.specs.declared.statement.Question.{Question}
use Rattle.ac_tree.specs.declared.tree.Stmt.{Stmt}
use Rattle.ac_tree.specs.declared.tree.When.{When}
use Rattle.ac_tree.specs.declared.tree.When.TheVariants.{Always}
use Rattle.ac_tree.specs.Script.{Script, Done, Then, Choice, Check, Cases, No_case, Case, joined, followed, script_of}
use Rattle.ac_tree.specs.TestNames.{NamesVariable, HasTestNames, HasTestNamesIn}
use Rattle.ac_tree.specs.Texts.{is_empty}
use Rattle.acparse.specs.Asked.{asked_by}
use Rattle.acparse.specs.Bare as bare_texts
use Rattle.acparse.specs.Profile.{source_of, case_if}
use Rattle.acparse.specs.Source.{IsSource}
use Rattle.acparse.specs.Statements.{Within, IsBare, before, ended, assignments, AreCases, no_more, default, pair, IsAction, absent, there, IsItem, bare_text, plain_call, choice, question, check, AreStatements, none, one, IsBody}
use Rattle.acparse.proofs.Questions.{asked_one}
use Rattle.acparse.proofs.Whole.{source_found}

-- ---- statements with no statements in them

-- What is read after something has a property, if it has it given what is known of that.
after_form : {A B : Type 0} (Q : A → Type 0) (P : B → Type 0) (r : Result A ParseFault) (next : A → Result B ParseFault) → IfOk r Q → ((x : A) → Q x → IfOk (next x) P) → IfOk (r >>= next) P
after_form Q P (Ok x) next q h = h x q
after_form Q P (Err f) next q h = tt

-- The same, if nothing has to be known.
after_any : {A B : Type 0} (P : B → Type 0) (r : Result A ParseFault) (next : A → Result B ParseFault) → ((x : A) → IfOk (next x) P) → IfOk (r >>= next) P
after_any P (Ok x) next h = h x
after_any P (Err f) next h = tt

one_of_two : {B : Type 0} (P : B → Type 0) (b : Bool) (r q : Result B ParseFault) → IfOk r P → IfOk q P → IfOk (cond b r q) P
one_of_two P true r q h k = h
one_of_two P false r q h k = k

name_form : (arg : Span) → IfOk (name arg) IsShellName
unfolding name
name_form arg = after_any IsShellName (arguments.trimmed_text arg) _ (λ t. is_form t (is_shell_name_of t) refl)
  where
    is_form : (t : List ℕ) (b : Bool) → is_shell_name_of t ≡ b → IfOk (wants b (BadName arg.at) >>= λ _. Ok t) IsShellName
    is_form t true e = e
    is_form t false e = tt

variable_form : (c : declarations.Declarations) (arg : Span) → IfOk (output_variable c arg) IsShellName
unfolding output_variable
variable_form c arg = after_form IsShellName IsShellName (name arg) _ (name_form arg) (λ n form. after_any IsShellName (wants (has_room c.substituted n) (TooMany arg.at)) _ (λ _. form))

unquoted_named : (n : List ℕ) (args : List Span) → IfOk (unquoted n args) NamesVariable
unfolding unquoted unquoted_of
unquoted_named n args =
    one_of_two NamesVariable (nat_lt (length args) 2) _ _ tt
    (after_any NamesVariable (line (arg_at args 1)) _ (λ t. one_of_two NamesVariable (is_empty t) _ _ tt (after_any NamesVariable (here_text (arg_at args 1)) _ (λ h. tt))))

-- A macro that declares nothing looks for no program.
act_named : (m : ActMacro) (args : List Span) → IfOk (act_of m args) NamesVariable
unfolding prereq lang define define_unquoted msg_error message_of
act_named acts.Prereq args = after_any NamesVariable (version (arg_at args 0)) _ (λ v. tt)
act_named acts.Ignored args = tt
act_named acts.Lang args = after_any NamesVariable (language (arg_at args 0)) _ (λ l. tt)
act_named acts.Define args = after_any NamesVariable (name (arg_at args 0)) _ (λ n. after_any NamesVariable (defined args) _ (λ v. tt))
act_named acts.DefineUnquoted args = after_any NamesVariable (name (arg_at args 0)) _ (λ n. unquoted_named n args)
act_named acts.MsgError args = after_any NamesVariable (here_text (arg_at args 0)) _ (λ t. after_any NamesVariable (status (arg_at args 1)) _ (λ s. tt))
act_named (acts.Message message) args = after_any NamesVariable (here_text (arg_at args 0)) _ (λ t. tt)

-- What a macro does that declares something.
abbrev Named : Declares × Effect → Type 0
Named s = NamesVariable s.1

searched_named : {A : Type 0} (reader : Span → Result A ParseFault) (effect : List ℕ → A → Option (List Part) → Effect) (c : declarations.Declarations) (args : List Span)
    → ((v : List ℕ) (sought : A) (other : Option (List Part)) → IsShellName v → NamesVariable (effect v sought other)) → IfOk (searched reader effect c args) Named
searched_named reader effect c args names =
    after_form IsShellName Named (output_variable c (arg_at args 0)) _ (variable_form c (arg_at args 0))
    (λ v form. after_any Named (reader (arg_at args 1)) _ (λ p. after_any Named (optional_text (arg_at args 2)) _ (λ o. names v p o form)))

declaring_named : (c : declarations.Declarations) (m : DeclaringMacro) (at : ℕ) (args : List Span) → IfOk (declaring_of c m at args) Named
unfolding init config_outputs subst_row assigned arg_var prog_cc check_prog check_progs path_prog
declaring_named c macro.Init at args =
    after_any Named (title (arg_at args 0)) _ (λ n. after_any Named (title (arg_at args 1)) _ (λ v. after_any Named (title (arg_at args 2)) _
    (λ b. after_any Named (tarname (arg_at args 3) n) _ (λ t. after_any Named (title (arg_at args 4)) _ (λ u. tt)))))
declaring_named c (macro.ConfigOutputs kind) at args = after_any Named (outputs_of c kind (arg_at args 0)) _ (λ o. tt)
declaring_named c macro.Subst at args =
    after_any Named (output_variable c (arg_at args 0)) _ (λ n. after_form NamesVariable Named (assigned n (arg_at args 1)) _
    (one_of_two NamesVariable (is_given (arg_at args 1)) _ _ (after_any NamesVariable (word (arg_at args 1)) _ (λ w. tt)) tt) (λ e names. names))
declaring_named c macro.ArgVar at args = after_any Named (output_variable c (arg_at args 0)) _ (λ n. after_any Named (text (arg_at args 1)) _ (λ h. tt))
declaring_named c macro.ProgCc at args = after_any Named (wants (has_tool_room c.substituted) (TooMany at)) _ (λ _. after_any Named (compilers (arg_at args 0)) _ (λ l. refl))
declaring_named c macro.CheckProg at args =
    after_form IsShellName Named (output_variable c (arg_at args 0)) _ (variable_form c (arg_at args 0))
    (λ v form. after_any Named (program (arg_at args 1)) _ (λ p. after_any Named (here_text (arg_at args 2)) _ (λ f. after_any Named (optional_text (arg_at args 3)) _ (λ o. form))))
declaring_named c macro.CheckProgs at args = searched_named programs (λ v list other. Searches v list other) c args (λ v list other form. form)
declaring_named c macro.PathProg at args = searched_named program (λ v p other. Search v p FullName other) c args (λ v p other form. form)
declaring_named c macro.Output at args = tt

plain_named : (c : declarations.Declarations) (m : PlainMacro) (at : ℕ) (args : List Span) → IfOk (plain_of c m at args) Named
unfolding undeclared
plain_named c (plain.Acts m) at args = after_form NamesVariable Named (act_of m args) _ (act_named m args) (λ e names. names)
plain_named c (plain.Declares m) at args = declaring_named c m at args

-- ---- lists

joined_named : (a b : Script) → HasTestNames a → HasTestNames b → HasTestNames (joined a b)
joined_named Done b h k = k
joined_named (Then d e rest) b h k = (h.0, joined_named rest b h.1 k)
joined_named (Choice d subject cases rest) b h k = (h.0, joined_named rest b h.1 k)
joined_named (Check message n commands rest) b h k = (h.0, joined_named rest b h.1 k)

followed_named : (a b : Cases) → HasTestNamesIn a → HasTestNamesIn b → HasTestNamesIn (followed a b)
followed_named No_case b h k = k
followed_named (Case when body more) b h k = (h.0, followed_named more b h.1 k)

assigned_named : (list : List Assignment) → HasTestNames (bare_texts.assigned list)
assigned_named [] = tt
assigned_named (a ∷ more) = (tt, assigned_named more)

bare_named : {stage : Stage} {text : List ℕ} {s : Script} (list_kind : ListKind) → IsBare list_kind stage text s → HasTestNames s
bare_named list_kind (before is) = tt
bare_named list_kind (ended is) = tt
bare_named list_kind (assignments {list = list} v l may) = assigned_named list

-- ---- cases

-- Each statement argument has such statements.
abbrev Holds : Within → Type 0
Holds Inside = (c : declarations.Declarations) (arg : Span) (s : Script) → Inside c arg s → HasTestNames s

case_named : (when : When) (given : Bool) (body : Script) → HasTestNames body → HasTestNamesIn (case_if when given body)
case_named when true body h = (h, tt)
case_named when false Done h = tt
case_named when false (Then d e rest) h = (h, tt)
case_named when false (Choice d subject cases rest) h = (h, tt)
case_named when false (Check message n commands rest) h = (h, tt)

cases_named : (Inside : Within) (holds : Holds Inside) (m : ChoiceMacro) {c : declarations.Declarations} {args : List Span} {cases : Cases} → AreCases Inside m c args cases → HasTestNamesIn cases
cases_named Inside holds m no_more = tt
cases_named Inside holds m (default {c = c} {arg = arg} {body = body} i) = case_named Always (is_given arg) body (holds c arg body i)
cases_named Inside holds m (pair w i more) = (holds _ _ _ i, cases_named Inside holds m more)

action_named : (Inside : Within) (holds : Holds Inside) (when : When) {c : declarations.Declarations} {args : List Span} {cases : Cases} → IsAction Inside when c args cases → HasTestNamesIn cases
action_named Inside holds when absent = tt
action_named Inside holds when (there {c = c} {arg = arg} {body = body} i) = case_named when (is_given arg) body (holds c arg body i)

asked_named : (d : Declares) (q : Question) (cases : Cases) → HasTestNamesIn cases → HasTestNames (asked_by d q cases)
asked_named d q cases h = asked_one (λ cases s. HasTestNamesIn cases → HasTestNames s) d q cases (λ listed entries includes h. (tt, tt)) (λ q h. (h, tt)) h

-- ---- items

item_named : (list_kind : ListKind) (Inside : ListKind → Within) (holds : (x : ListKind) → Holds (Inside x)) (c : declarations.Declarations) (line_start : LineStart) {item : items.ItemValue} {next : List items.ItemValue} {s : Script}
    → IsItem list_kind Inside c line_start item next s → HasTestNames s
item_named list_kind Inside holds c line_start (bare_text i) = bare_named list_kind i
item_named list_kind Inside holds c line_start (plain_call {args = args} {at = at} {m = m} stands p) = (subst (λ r. IfOk r Named) p (plain_named c m at args), tt)
item_named list_kind Inside holds c line_start (choice {m = m} stands p i) = (cases_named (Inside (of_case list_kind)) (holds (of_case list_kind)) m i, tt)
item_named list_kind Inside holds c line_start (question {declares = d} {whole = whole} {first = first} {other = other} stands p f o w) =
    let inner = holds (of_case list_kind) in
    asked_named d whole (followed first other) (followed_named first other (action_named (Inside (of_case list_kind)) inner _ f) (action_named (Inside (of_case list_kind)) inner _ o))
item_named list_kind Inside holds c line_start (check stands m n i) = (holds _ _ _ _ i, tt)

items_named : (list_kind : ListKind) (Inside : ListKind → Within) (holds : (x : ListKind) → Holds (Inside x)) {c : declarations.Declarations} {line_start : LineStart} {items : List items.ItemValue} {s : Script}
    → AreStatements list_kind Inside c line_start items s → HasTestNames s
items_named list_kind Inside holds none = tt
items_named list_kind Inside holds (one {c = c} {first = first} {rest = rest} i more) = joined_named first rest (item_named list_kind Inside holds c _ i) (items_named list_kind Inside holds more)

body_named : (room : ℕ) (list_kind : ListKind) → Holds (IsBody room list_kind)
body_named zero list_kind c arg s i = absurd i
body_named (suc room) list_kind c arg s i = items_named list_kind (IsBody room) (body_named room) i.2.2

-- The variables of the programs in a source.
pub source_named : (text : List ℕ) (s : Script) → IsSource text s → HasTestNames s
source_named text s is = items_named Top (IsBody 31) (body_named 31) is.list.statements

pub names_held : (text : List ℕ) (r : Result (List Stmt) ParseFault) → Gives script_of r (source_of text) → IfOk r (λ s. HasTestNames (script_of s))
names_held text (Ok s) is = source_named text (script_of s) (source_found text (script_of s) is)
names_held text (Err f) is = tt
