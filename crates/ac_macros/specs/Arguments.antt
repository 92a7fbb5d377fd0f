-- What each argument of a macro is, from the left. (Autoconf's manual, the sections of the macros)
use Rattle.std.specs.Prelude.{ℕ, suc, ◌+◌, ◌%◌, Bool, true, false, ◌||◌, ◌==◌, List, [], ◌∷◌, length, slice_index_or, if◌then◌else◌}
use Rattle.ac_macros.specs.declared.arguments.ArgumentKind.{ArgumentKind}
use Rattle.ac_macros.specs.declared.arguments.ArgumentKind.TheVariants.{ArchiveName, CacheName, Compilers, Declaration, Declarations, Definition, Description, ExitStatus, Feature, Files, FoundValue, Function, Functions, Header, Headers, Help, HelpPart, Includes, Language, Libraries, Library, LibraryFunction, MadeHeaders, MainBody, Message, OtherLibraries, OtherValue, Package, Patterns, Program, Programs, SourceCall, SourceText, Statements, Symbol, Test, Title, TypeName, TypeNames, Unread, Value, Variable, VariableHelp, Version, Word}
use Rattle.ac_macros.specs.declared.macros.ActMacro.{ActMacro}
use Rattle.ac_macros.specs.declared.macros.ActMacro.TheVariants as acts
use Rattle.ac_macros.specs.declared.macros.ArgumentMacro.{ArgumentMacro}
use Rattle.ac_macros.specs.declared.macros.ArgumentMacro.TheVariants as inner
use Rattle.ac_macros.specs.declared.macros.ChoiceMacro.{ChoiceMacro}
use Rattle.ac_macros.specs.declared.macros.ChoiceMacro.TheVariants.{If, Case}
use Rattle.ac_macros.specs.declared.macros.DeclaringMacro.{DeclaringMacro}
use Rattle.ac_macros.specs.declared.macros.DeclaringMacro.TheVariants as declares
use Rattle.ac_macros.specs.declared.macros.Macro.TheVariants.{Plain, Choice, Question, Check}
use Rattle.ac_macros.specs.declared.macros.Named.{Named}
use Rattle.ac_macros.specs.declared.macros.Named.TheVariants.{Statement, Argument}
use Rattle.ac_macros.specs.declared.macros.PlainMacro.TheVariants.{Acts, Declares}
use Rattle.ac_macros.specs.declared.macros.QuestionMacro.{QuestionMacro}
use Rattle.ac_macros.specs.declared.macros.QuestionMacro.TheVariants as asks
use Rattle.ac_tree.specs.declared.feature.OptionKind.{OptionKind}
use Rattle.ac_tree.specs.declared.feature.OptionKind.TheVariants as options
use Rattle.ac_tree.specs.declared.listed.Listed.TheVariants as listed
use Rattle.ac_tree.specs.declared.listed.Sought.{Sought}
use Rattle.ac_tree.specs.declared.listed.Sought.TheVariants.{ListEntry, «Type»}
use Rattle.ac_tree.specs.declared.program.Try.{Try}
use Rattle.ac_tree.specs.declared.program.Try.TheVariants as tries
use Rattle.ac_tree.specs.declared.statement.OutputKind.{OutputKind}
use Rattle.ac_tree.specs.declared.statement.OutputKind.TheVariants as outputs

-- Macros that declare nothing. (Autoconf's manual, the sections of the macros)
abbrev pub act_kinds : ActMacro → List ArgumentKind
act_kinds acts.Prereq = Version ∷ []
act_kinds acts.Ignored = Unread ∷ []
act_kinds acts.Lang = Language ∷ []
act_kinds acts.Define = Symbol ∷ Definition ∷ Description ∷ []
act_kinds acts.DefineUnquoted = Symbol ∷ Definition ∷ Description ∷ []
act_kinds acts.MsgError = Message ∷ ExitStatus ∷ []
act_kinds (acts.Message message) = Message ∷ []

-- AC_CONFIG_FILES and AC_CONFIG_HEADERS. (Autoconf's manual, "Configuration Files" and "Configuration Headers")
abbrev pub output_kinds : OutputKind → List ArgumentKind
output_kinds outputs.File = Files ∷ []
output_kinds outputs.Header = MadeHeaders ∷ []

-- Macros that declare something. (Autoconf's manual, the sections of the macros)
abbrev pub declaring_kinds : DeclaringMacro → List ArgumentKind
declaring_kinds declares.Init = Title ∷ Title ∷ Title ∷ ArchiveName ∷ Title ∷ []
declaring_kinds (declares.ConfigOutputs kind) = output_kinds kind
declaring_kinds declares.Subst = Variable ∷ Value ∷ []
declaring_kinds declares.ArgVar = Variable ∷ VariableHelp ∷ []
declaring_kinds declares.ProgCc = Compilers ∷ []
declaring_kinds declares.CheckProg = Variable ∷ Program ∷ FoundValue ∷ OtherValue ∷ []
declaring_kinds declares.CheckProgs = Variable ∷ Programs ∷ OtherValue ∷ []
declaring_kinds declares.PathProg = Variable ∷ Program ∷ OtherValue ∷ []
declaring_kinds declares.Output = Unread ∷ []

-- AC_ARG_ENABLE and AC_ARG_WITH. (Autoconf's manual, "Choosing Package Options" and "Specifying External Software")
abbrev pub option_kinds : OptionKind → List ArgumentKind
option_kinds options.Feature = Feature ∷ Help ∷ Statements ∷ Statements ∷ []
option_kinds options.Package = Package ∷ Help ∷ Statements ∷ Statements ∷ []

-- AC_COMPILE_IFELSE and its kin. The statements of AC_RUN_IFELSE for a run that can't be tried are not read. (Autoconf's
-- manual, "Running the Compiler" and "Runtime")
abbrev pub try_kinds : Try → List ArgumentKind
try_kinds tries.Compile = SourceCall ∷ Statements ∷ Statements ∷ []
try_kinds tries.Link = SourceCall ∷ Statements ∷ Statements ∷ []
try_kinds tries.Preproc = SourceCall ∷ Statements ∷ Statements ∷ []
try_kinds tries.Run = SourceCall ∷ Statements ∷ Statements ∷ Unread ∷ []

-- AC_CHECK_HEADER and its kin. (Autoconf's manual, "Existing Tests")
abbrev pub entry_kinds : Sought → List ArgumentKind
entry_kinds (ListEntry listed.Header) = Header ∷ Statements ∷ Statements ∷ Includes ∷ []
entry_kinds (ListEntry listed.Function) = Function ∷ Statements ∷ Statements ∷ []
entry_kinds (ListEntry listed.Declaration) = Declaration ∷ Statements ∷ Statements ∷ Includes ∷ []
entry_kinds «Type» = TypeName ∷ Statements ∷ Statements ∷ Includes ∷ []

-- AC_CHECK_HEADERS and its kin. (Autoconf's manual, "Existing Tests")
abbrev pub list_kinds : Sought → List ArgumentKind
list_kinds (ListEntry listed.Header) = Headers ∷ Statements ∷ Statements ∷ Includes ∷ []
list_kinds (ListEntry listed.Function) = Functions ∷ Statements ∷ Statements ∷ []
list_kinds (ListEntry listed.Declaration) = Declarations ∷ Statements ∷ Statements ∷ Includes ∷ []
list_kinds «Type» = TypeNames ∷ Statements ∷ Statements ∷ Includes ∷ []

-- Macros that ask a question. (Autoconf's manual, the sections of the macros)
abbrev pub question_kinds : QuestionMacro → List ArgumentKind
question_kinds (asks.Given kind) = option_kinds kind
question_kinds (asks.Tries kind) = try_kinds kind
question_kinds (asks.Checks sought) = entry_kinds sought
question_kinds (asks.ChecksEach sought) = list_kinds sought
question_kinds asks.Library = Library ∷ LibraryFunction ∷ Statements ∷ Statements ∷ OtherLibraries ∷ []
question_kinds asks.Libraries = LibraryFunction ∷ Libraries ∷ Statements ∷ Statements ∷ OtherLibraries ∷ []

-- Macros that are read only in arguments. (Autoconf's manual, "Pretty Help Strings" and "Generating Sources")
abbrev pub inner_kinds : ArgumentMacro → List ArgumentKind
inner_kinds inner.HelpString = HelpPart ∷ HelpPart ∷ []
inner_kinds inner.LangProgram = SourceText ∷ MainBody ∷ []
inner_kinds inner.LangSource = SourceText ∷ []

-- The arguments of a macro. Those of AS_IF and AS_CASE repeat, and are not here. (own)
abbrev pub kinds : Named → List ArgumentKind
kinds (Statement (Plain (Acts m))) = act_kinds m
kinds (Statement (Plain (Declares m))) = declaring_kinds m
kinds (Statement (Choice m)) = []
kinds (Statement (Question m)) = question_kinds m
kinds (Statement Check) = Message ∷ CacheName ∷ Statements ∷ []
kinds (Argument m) = inner_kinds m

-- The argument of AS_IF(test, statements, [test, statements].., [default]) or AS_CASE(word, [patterns, statements].., [default])
-- at this index, if there are `count`: the last one is the default, if it is left over. (Autoconf's manual, "Common Shell
-- Constructs")
abbrev pub choice_kind : ChoiceMacro → ℕ → ℕ → ArgumentKind
choice_kind If count i = if i % 2 == 1 || i + 1 == count then Statements else Test
choice_kind Case count i = if i == 0 then Word else (if i % 2 == 0 || i + 1 == count then Statements else Patterns)

-- The kind at an index. An argument past the last is not read. (own)
abbrev pub kind_at : List ArgumentKind → ℕ → ArgumentKind
kind_at ks i = slice_index_or ks i Unread

-- The argument at this index of a call with `count` arguments. (own)
abbrev pub argument_kind : Named → ℕ → ℕ → ArgumentKind
argument_kind (Statement (Choice m)) count i = choice_kind m count i
argument_kind named count i = kind_at (kinds named) i

-- The kind is that of statements. (own)
abbrev pub is_statements : ArgumentKind → Bool
is_statements Statements = true
is_statements kind = false

-- The argument at this index of a call with `count` arguments holds statements. (own)
abbrev pub holds_statements : Named → ℕ → ℕ → Bool
holds_statements named count i = is_statements (argument_kind named count i)

-- The index of the first kind that is that of statements. (own)
abbrev pub first_statements : List ArgumentKind → ℕ
first_statements [] = 0
first_statements (kind ∷ kinds) = if is_statements kind then 0 else suc (first_statements kinds)

-- The index of a question's statements for yes; those for no come after them. (own)
unfoldable pub first_action : QuestionMacro → ℕ
first_action m = first_statements (question_kinds m)

-- Any number of arguments: the size in bytes of the largest source, so more than any call has. (own)
abbrev pub any : ℕ
any = 1048576

-- The largest number of arguments of a call. (own)
abbrev pub most_of : Named → ℕ
most_of (Statement (Choice m)) = any
most_of named = length (kinds named)
