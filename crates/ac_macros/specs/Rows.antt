-- The readers of macros: for each macro the form of its arguments, from the left, and the statement that it makes: what it
-- does, and what it declares if it declares something. If an argument has an error, it is that of the first such argument.
use Rattle.std.specs.Prelude.{ℕ, List, length, Result, Ok, nat_lt, codes, if◌then◌else◌}
use Rattle.m4quote.specs.ItemValue.{Span}
use Rattle.ac_statement.specs.declared.fault.ParseFault.{ParseFault}
use Rattle.ac_statement.specs.declared.fault.ParseFault.TheVariants.{TooMany}
use Rattle.ac_args.specs.Arguments.{text, name, title, line, is_given}
use Rattle.ac_statement.specs.Texts.{arg_at}
use Rattle.ac_tree.specs.declared.feature.OptionKind.{OptionKind}
use Rattle.ac_tree.specs.declared.feature.OptionKind.TheVariants as options
use Rattle.ac_args.specs.Feature.{feature_variable}
use Rattle.ac_args.specs.Help.{help}
use Rattle.ac_args.specs.Numbers.{version, status, language}
use Rattle.ac_args.specs.Outputs.{outputs}
use Rattle.output_list.specs.declared.output.Output.{Output}
use Rattle.ac_statement.specs.Reading.{◌>>=◌, wants}
use Rattle.ac_args.specs.Shell.{word, here_text}
use Rattle.ac_tree.specs.Texts.{is_empty}
use Rattle.ac_statement.specs.Texts.{or_else}
use Rattle.ac_macros.specs.declared.macros.ActMacro.{ActMacro}
use Rattle.ac_macros.specs.declared.macros.ActMacro.TheVariants as acts
use Rattle.ac_macros.specs.declared.macros.DeclaringMacro.{DeclaringMacro}
use Rattle.ac_macros.specs.declared.macros.DeclaringMacro.TheVariants as declaring
use Rattle.ac_macros.specs.declared.macros.PlainMacro.{PlainMacro}
use Rattle.ac_macros.specs.declared.macros.PlainMacro.TheVariants as plain
use Rattle.ac_macros.specs.declared.macros.QuestionMacro.{QuestionMacro}
use Rattle.ac_macros.specs.declared.macros.QuestionMacro.TheVariants as questions
use Rattle.ac_tree.specs.declared.declarations.Declarations as declarations
use Rattle.ac_tree.specs.declared.statement.Declares.{Declares}
use Rattle.ac_tree.specs.declared.statement.Declares.TheVariants as declares
use Rattle.ac_tree.specs.declared.statement.Effect.{Effect}
use Rattle.ac_tree.specs.declared.statement.Effect.TheVariants.{Nothing, Assign, Define, DefineText, Print, Stop, Package, Complete}
use Rattle.ac_tree.specs.declared.statement.Message.{Message}
use Rattle.ac_tree.specs.declared.statement.OutputKind.{OutputKind}
use Rattle.ac_tree.specs.declared.statement.OutputKind.TheVariants.{File, Header}
use Rattle.ac_tree.specs.declared.statement.Question.{Question}
use Rattle.ac_tree.specs.declared.statement.Question.TheVariants.{Given}
use Rattle.ac_macros.specs.Checks.{checks, checks_each}
use Rattle.ac_macros.specs.Libraries.{check_lib, search_libs}
use Rattle.ac_macros.specs.PackageName.{tar_name}
use Rattle.ac_macros.specs.Room.{has_room}
use Rattle.ac_macros.specs.Searches.{output_variable, check_prog, check_progs, path_prog, prog_cc}
use Rattle.ac_macros.specs.Tries.{tries}

-- The archive's name, or the one that is derived from the package's name. (Autoconf's manual, "Initializing configure")
unfoldable pub tarname : Span → List ℕ → Result (List ℕ) ParseFault
tarname arg package_name = do
  t ← title arg
  Ok (or_else t (tar_name package_name))

-- AC_INIT(package, version, [bug-report], [tarname], [url]). (Autoconf's manual, "Initializing configure")
unfoldable pub init : List Span → Result (Declares × Effect) ParseFault
init args = do
  package_name ← title (arg_at args 0)
  version ← title (arg_at args 1)
  bug ← title (arg_at args 2)
  tar ← tarname (arg_at args 3) package_name
  url ← title (arg_at args 4)
  Ok (declares.Begin, Package package_name version bug tar url)

-- AC_PREREQ(version). (Autoconf's manual, "Versioning")
unfoldable pub prereq : List Span → Result Effect ParseFault
prereq args = do
  _ ← version (arg_at args 0)
  Ok Nothing

-- AC_LANG(language). (Autoconf's manual, "Language Choice")
unfoldable pub lang : List Span → Result Effect ParseFault
lang args = do
  _ ← language (arg_at args 0)
  Ok Nothing

-- Outputs of a kind, given the earlier files and headers of the source. (own)
abbrev pub outputs_of : declarations.Declarations → OutputKind → Span → Result (List Output) ParseFault
outputs_of c File arg = outputs c.files c.headers arg
outputs_of c Header arg = outputs c.headers c.files arg

-- AC_CONFIG_FILES(list) and AC_CONFIG_HEADERS(list), given the earlier outputs of the source. (Autoconf's manual,
-- "Configuration Files" and "Configuration Headers")
unfoldable pub config_outputs : declarations.Declarations → OutputKind → List Span → Result (Declares × Effect) ParseFault
config_outputs c kind args = do
  o ← outputs_of c kind (arg_at args 0)
  Ok (declares.Outputs kind o, Nothing)

-- The value of an output variable, if the argument is given. (Autoconf's manual, "Setting Output Variables")
unfoldable pub assigned : List ℕ → Span → Result Effect ParseFault
assigned n arg = if is_given arg then (word arg >>= λ w. Ok (Assign n w)) else Ok Nothing

-- AC_SUBST(variable, [value]), given the earlier variables of the source. (Autoconf's manual, "Setting Output
-- Variables")
unfoldable pub subst : declarations.Declarations → List Span → Result (Declares × Effect) ParseFault
subst c args = do
  n ← output_variable c (arg_at args 0)
  e ← assigned n (arg_at args 1)
  Ok (declares.Variable n, e)

-- The value that AC_DEFINE defines: `1` if the argument is absent, an empty comment if it is empty. (Autoconf's manual,
-- "Defining Symbols")
unfoldable pub defined : List Span → Result (List ℕ) ParseFault
defined args =
    if nat_lt (length args) 2 then Ok (codes "1")
    else (line (arg_at args 1) >>= λ t. Ok (or_else t (codes "/**/")))

-- AC_DEFINE(variable, [value], [description]); the description is not read. (Autoconf's manual, "Defining Symbols")
unfoldable pub define : List Span → Result Effect ParseFault
define args = do
  n ← name (arg_at args 0)
  value ← defined args
  Ok (Define n value)

-- The value that AC_DEFINE_UNQUOTED defines, given the argument and its text: an empty comment if the text is empty.
-- (Autoconf's manual, "Defining Symbols")
unfoldable pub unquoted_of : List ℕ → List ℕ → Span → Result Effect ParseFault
unquoted_of n t arg = if is_empty t then Ok (Define n (codes "/**/")) else (here_text arg >>= λ h. Ok (DefineText n h))

-- The same, and `1` if the argument is absent. (Autoconf's manual, "Defining Symbols")
unfoldable pub unquoted : List ℕ → List Span → Result Effect ParseFault
unquoted n args =
    if nat_lt (length args) 2 then Ok (Define n (codes "1"))
    else (line (arg_at args 1) >>= λ t. unquoted_of n t (arg_at args 1))

-- AC_DEFINE_UNQUOTED(variable, [value], [description]); the description is not read. (Autoconf's manual, "Defining
-- Symbols")
unfoldable pub define_unquoted : List Span → Result Effect ParseFault
define_unquoted args = do
  n ← name (arg_at args 0)
  unquoted n args

-- AC_MSG_ERROR(message, [status]). (Autoconf's manual, "Printing Messages")
unfoldable pub msg_error : List Span → Result Effect ParseFault
msg_error args = do
  t ← here_text (arg_at args 0)
  exit ← status (arg_at args 1)
  Ok (Stop t exit)

-- AC_MSG_CHECKING(feature), AC_MSG_RESULT(results), AC_MSG_NOTICE(message) and AC_MSG_WARN(problem). (Autoconf's manual,
-- "Printing Messages")
unfoldable pub message_of : Message → List Span → Result Effect ParseFault
message_of message args = do
  t ← here_text (arg_at args 0)
  Ok (Print message t)

-- AC_ARG_VAR(variable, help), given the earlier variables of the source. (Autoconf's manual, "Setting Output
-- Variables")
unfoldable pub arg_var : declarations.Declarations → List Span → Result (Declares × Effect) ParseFault
arg_var c args = do
  n ← output_variable c (arg_at args 0)
  help ← text (arg_at args 1)
  Ok (declares.Precious n help, Nothing)

-- What a call does whose macro declares nothing. (own)
abbrev pub act_of : ActMacro → List Span → Result Effect ParseFault
act_of acts.Prereq args = prereq args
act_of acts.Ignored args = Ok Nothing
act_of acts.Lang args = lang args
act_of acts.Define args = define args
act_of acts.DefineUnquoted args = define_unquoted args
act_of acts.MsgError args = msg_error args
act_of (acts.Message message) args = message_of message args

-- What a call declares and does whose macro declares something, with its name at this offset, given what has been declared.
-- (own)
abbrev pub declaring_of : declarations.Declarations → DeclaringMacro → ℕ → List Span → Result (Declares × Effect) ParseFault
declaring_of c declaring.Init at args = init args
declaring_of c (declaring.ConfigOutputs kind) at args = config_outputs c kind args
declaring_of c declaring.Subst at args = subst c args
declaring_of c declaring.ArgVar at args = arg_var c args
declaring_of c declaring.ProgCc at args = prog_cc c at args
declaring_of c declaring.CheckProg at args = check_prog c args
declaring_of c declaring.CheckProgs at args = check_progs c args
declaring_of c declaring.PathProg at args = path_prog c args
declaring_of c declaring.Output at args = Ok (declares.End, Complete)

-- What is read of a macro that declares nothing. (own)
unfoldable pub undeclared : {A : Type 0} → Result A ParseFault → Result (Declares × A) ParseFault
undeclared r = r >>= λ x. Ok (declares.Nothing, x)

-- What a macro with its name at this offset declares and does, given what has been declared. (own)
abbrev pub plain_of : declarations.Declarations → PlainMacro → ℕ → List Span → Result (Declares × Effect) ParseFault
plain_of c (plain.Acts m) at args = undeclared (act_of m args)
plain_of c (plain.Declares m) at args = declaring_of c m at args

-- ---- questions

-- The variables of the declared options of a kind. (own)
abbrev pub options_of : declarations.Declarations → OptionKind → List (List ℕ)
options_of c options.Feature = c.features
options_of c options.Package = c.packages

-- AC_ARG_ENABLE(feature, help, ..) and AC_ARG_WITH(package, help, ..), given the earlier options of the source.
-- (Autoconf's manual, "Choosing Package Options" and "External Software")
unfoldable pub option_question : declarations.Declarations → OptionKind → List Span → Result (Declares × Question) ParseFault
option_question c kind args = do
  variable ← feature_variable kind (arg_at args 0)
  _ ← wants (has_room (options_of c kind) variable) (TooMany (arg_at args 0).at)
  h ← help (arg_at args 1)
  Ok (declares.Option kind variable h, Given kind variable)

-- What a macro declares, and its question before its includes or other libraries are read, given what has been declared.
-- (own)
abbrev pub question_of : declarations.Declarations → QuestionMacro → List Span → Result (Declares × Question) ParseFault
question_of c (questions.Given kind) args = option_question c kind args
question_of c (questions.Tries kind) args = undeclared (tries kind args)
question_of c (questions.Checks sought) args = undeclared (checks sought args)
question_of c (questions.ChecksEach sought) args = undeclared (checks_each sought args)
question_of c questions.Library args = undeclared (check_lib args)
question_of c questions.Libraries args = undeclared (search_libs args)
