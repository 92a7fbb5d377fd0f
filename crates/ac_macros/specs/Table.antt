-- The table of macros (Autoconf's manual, the sections of the macros): for each name what it means, which arguments its
-- calls take, and whether they are allowed only in the file's own list of statements.
use Rattle.std.specs.Prelude.{ℕ, Bool, true, false, not, ◌&&◌, List, [], ◌∷◌, length, Option, Some, None, nat_le, codes, if◌then◌else◌}
use Rattle.std.specs.Str.{bytes_eq}
use Rattle.m4quote.specs.ItemValue.{Span}
use Rattle.ac_args.specs.Arguments.{is_given}
use Rattle.ac_statement.specs.Texts.{arg_at}
use Rattle.ac_macros.specs.Arguments.{most_of}
use Rattle.ac_macros.specs.declared.macros.ActMacro.TheVariants.{Prereq, Ignored, Lang, Define, DefineUnquoted, MsgError, Message}
use Rattle.ac_macros.specs.declared.macros.ArgumentMacro.TheVariants.{HelpString, LangProgram, LangSource}
use Rattle.ac_macros.specs.declared.macros.ChoiceMacro.TheVariants.{If, Case}
use Rattle.ac_macros.specs.declared.macros.DeclaringMacro.TheVariants.{Init, ConfigOutputs, Subst, ArgVar, ProgCc, CheckProg, CheckProgs, PathProg, Output}
use Rattle.ac_macros.specs.declared.macros.Macro.TheVariants.{Plain, Choice, Question, Check}
use Rattle.ac_macros.specs.declared.macros.Named.{Named}
use Rattle.ac_macros.specs.declared.macros.Named.TheVariants.{Statement, Argument}
use Rattle.ac_macros.specs.declared.macros.PlainMacro.TheVariants.{Acts, Declares}
use Rattle.ac_macros.specs.declared.macros.QuestionMacro.TheVariants.{Given, Tries, Checks, ChecksEach, Library, Libraries}
use Rattle.ac_macros.specs.declared.table.Row.{Row}
use Rattle.ac_tree.specs.declared.feature.OptionKind.TheVariants.{Feature, Package}
use Rattle.ac_tree.specs.declared.listed.Listed.TheVariants.{Header, Function, Declaration}
use Rattle.ac_tree.specs.declared.listed.Sought.TheVariants.{ListEntry, «Type»}
use Rattle.ac_tree.specs.declared.statement.Message.TheVariants.{Checking, Results, Notice, Warning}
use Rattle.ac_tree.specs.declared.statement.OutputKind.TheVariants as outputs
use Rattle.ac_tree.specs.declared.program.Try.TheVariants.{Compile, Link, Preproc, Run}

-- The rows: a name, what it means, the least number of arguments, and whether its calls are allowed only in the file's own
-- list. (Autoconf's manual, the sections of the macros)
unfoldable pub rows : List (List ℕ × Named × ℕ × Bool)
rows =
    (codes "AC_INIT", Statement (Plain (Declares Init)), 2, true)
    ∷ (codes "AC_PREREQ", Statement (Plain (Acts Prereq)), 1, true)
    ∷ (codes "AC_CONFIG_SRCDIR", Statement (Plain (Acts Ignored)), 1, true)
    ∷ (codes "AC_CONFIG_AUX_DIR", Statement (Plain (Acts Ignored)), 1, true)
    ∷ (codes "AC_CONFIG_MACRO_DIR", Statement (Plain (Acts Ignored)), 1, true)
    ∷ (codes "AC_CONFIG_MACRO_DIRS", Statement (Plain (Acts Ignored)), 1, true)
    ∷ (codes "AC_LANG", Statement (Plain (Acts Lang)), 1, false)
    ∷ (codes "AC_CONFIG_FILES", Statement (Plain (Declares (ConfigOutputs outputs.File))), 1, true)
    ∷ (codes "AC_CONFIG_HEADERS", Statement (Plain (Declares (ConfigOutputs outputs.Header))), 1, true)
    ∷ (codes "AC_OUTPUT", Statement (Plain (Declares Output)), 0, true)
    ∷ (codes "AC_ARG_ENABLE", Statement (Question (Given Feature)), 1, false)
    ∷ (codes "AC_ARG_WITH", Statement (Question (Given Package)), 1, false)
    ∷ (codes "AC_ARG_VAR", Statement (Plain (Declares ArgVar)), 2, false)
    ∷ (codes "AC_SUBST", Statement (Plain (Declares Subst)), 1, false)
    ∷ (codes "AC_DEFINE", Statement (Plain (Acts Define)), 1, false)
    ∷ (codes "AC_DEFINE_UNQUOTED", Statement (Plain (Acts DefineUnquoted)), 1, false)
    ∷ (codes "AC_MSG_ERROR", Statement (Plain (Acts MsgError)), 1, false)
    ∷ (codes "AC_MSG_CHECKING", Statement (Plain (Acts (Message Checking))), 1, false)
    ∷ (codes "AC_MSG_RESULT", Statement (Plain (Acts (Message Results))), 1, false)
    ∷ (codes "AC_MSG_NOTICE", Statement (Plain (Acts (Message Notice))), 1, false)
    ∷ (codes "AC_MSG_WARN", Statement (Plain (Acts (Message Warning))), 1, false)
    ∷ (codes "AS_IF", Statement (Choice If), 2, false)
    ∷ (codes "AS_CASE", Statement (Choice Case), 2, false)
    ∷ (codes "AC_CACHE_CHECK", Statement Check, 3, false)
    ∷ (codes "AC_PROG_CC", Statement (Plain (Declares ProgCc)), 0, false)
    ∷ (codes "AC_CHECK_PROG", Statement (Plain (Declares CheckProg)), 3, false)
    ∷ (codes "AC_CHECK_PROGS", Statement (Plain (Declares CheckProgs)), 2, false)
    ∷ (codes "AC_PATH_PROG", Statement (Plain (Declares PathProg)), 2, false)
    ∷ (codes "AC_CHECK_HEADER", Statement (Question (Checks (ListEntry Header))), 1, false)
    ∷ (codes "AC_CHECK_FUNC", Statement (Question (Checks (ListEntry Function))), 1, false)
    ∷ (codes "AC_CHECK_DECL", Statement (Question (Checks (ListEntry Declaration))), 1, false)
    ∷ (codes "AC_CHECK_TYPE", Statement (Question (Checks «Type»)), 1, false)
    ∷ (codes "AC_CHECK_HEADERS", Statement (Question (ChecksEach (ListEntry Header))), 1, false)
    ∷ (codes "AC_CHECK_FUNCS", Statement (Question (ChecksEach (ListEntry Function))), 1, false)
    ∷ (codes "AC_CHECK_DECLS", Statement (Question (ChecksEach (ListEntry Declaration))), 1, false)
    ∷ (codes "AC_CHECK_TYPES", Statement (Question (ChecksEach «Type»)), 1, false)
    ∷ (codes "AC_CHECK_LIB", Statement (Question Library), 2, false)
    ∷ (codes "AC_SEARCH_LIBS", Statement (Question Libraries), 2, false)
    ∷ (codes "AC_COMPILE_IFELSE", Statement (Question (Tries Compile)), 1, false)
    ∷ (codes "AC_LINK_IFELSE", Statement (Question (Tries Link)), 1, false)
    ∷ (codes "AC_PREPROC_IFELSE", Statement (Question (Tries Preproc)), 1, false)
    ∷ (codes "AC_RUN_IFELSE", Statement (Question (Tries Run)), 1, false)
    ∷ (codes "AS_HELP_STRING", Argument HelpString, 2, false)
    ∷ (codes "AC_LANG_PROGRAM", Argument LangProgram, 0, false)
    ∷ (codes "AC_LANG_SOURCE", Argument LangSource, 1, false)
    ∷ []

-- The first row of this name. (own)
abbrev pub row_among : List ℕ → List (List ℕ × Named × ℕ × Bool) → Option Row
row_among name [] = None
row_among name ((known, named, least, top) ∷ more) =
    if bytes_eq known name then Some (record { named = named; least = least; most = most_of named; top = top }) else row_among name more

-- The row of a name. (own)
unfoldable pub row_named : List ℕ → Option Row
row_named name = row_among name rows

-- The row allows n arguments. (own)
abbrev pub allows : Row → ℕ → Bool
allows r n = nat_le r.least n && nat_le n r.most

-- AC_OUTPUT with an argument that is given; one with an error in its quotes is given. (own)
abbrev pub is_output_of_text : Named → List Span → Bool
is_output_of_text (Statement (Plain (Declares Output))) args = is_given (arg_at args 0)
is_output_of_text m args = false

-- The row's macro takes these arguments: the row allows their number, and the one of AC_OUTPUT is empty. (own)
unfoldable pub takes : Row → List Span → Bool
takes r args = allows r (length args) && not (is_output_of_text r.named args)
