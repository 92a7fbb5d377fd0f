-- The names that a plan defines.
use Rattle.std.specs.Prelude.{ℕ, true, false, List, [], ◌∷◌, ◌++◌, Option, Some, None, All, IfSome, codes}
use Rattle.deftable.specs.ShellName.{IsShellName}
use Rattle.ac_tree.specs.declared.statement.Effect.{Effect}
use Rattle.ac_tree.specs.declared.statement.Effect.TheVariants.{Define, DefineText, Package, Batch}
use Rattle.ac_tree.specs.declared.statement.Question as asks
use Rattle.ac_tree.specs.declared.statement.Question.TheVariants as questions
use Rattle.ac_tree.specs.declared.statement.Question.TheVariants.{Given, Tries, Checks, ChecksEach}
use Rattle.ac_tree.specs.declared.tree.Subject as subject
use Rattle.ac_tree.specs.declared.tree.Subject.TheVariants.{Nothing, Word, Asked}
use Rattle.test_forms.specs.Macros.{library_form, search_form}
use Rattle.test_forms.specs.declared.form.Gives.{Gives}
use Rattle.test_forms.specs.declared.form.Gives.TheVariants as forms
use Rattle.test_forms.specs.Form.{TestForm}
use Rattle.meaning.specs.Forms.{symbol_part}
use Rattle.meaning.specs.Entries.{listed_form, sought_form}
use Rattle.meaning.specs.Rows.{TestKind, Program, Formed}
use Rattle.plan.specs.Walk.{Instruction, Does, Looks, Defaults, Begins, Skips_unless, Skips, Opens, Closes}

-- The name that a form defines, if it defines one: `HAVE_` and its text, or `HAVE_LIB` and a library. (Autoconf's manual,
-- "Generic Headers" to "Generic Types" and "Library Files")
abbrev pub given_symbol : Gives → Option (List ℕ)
given_symbol forms.Nothing = None
given_symbol (forms.Have what) = Some (codes "HAVE_" ++ symbol_part what)
given_symbol (forms.HaveOrNot what) = Some (codes "HAVE_" ++ symbol_part what)
given_symbol (forms.AddsLibrary library) = Some (codes "HAVE_LIB" ++ symbol_part library)
given_symbol forms.AddsValue = None

-- The name that a test defines, if it defines one. (own)
abbrev pub definition : TestKind → Option (List ℕ)
definition (Program search own) = None
definition (Formed t) = given_symbol t.form.gives

-- The name that the test of a form defines, if any, has the form of one. (own)
abbrev pub DefinesBy : TestForm → Type 0
DefinesBy form = IfSome (given_symbol form.gives) IsShellName

-- The names that AC_INIT defines. (Autoconf's manual, "Initializing configure")
abbrev pub package_names : List (List ℕ)
package_names =
    codes "PACKAGE_NAME" ∷ codes "PACKAGE_TARNAME" ∷ codes "PACKAGE_VERSION" ∷ codes "PACKAGE_STRING" ∷ codes "PACKAGE_BUGREPORT"
    ∷ codes "PACKAGE_URL" ∷ []

-- Every name that an effect defines in its own step has the form of one. (own)
unfoldable pub DefinesName : Effect → Type 0
DefinesName (Define name value) = IsShellName name
DefinesName (DefineText name value) = IsShellName name
DefinesName (Package title version bug tarname url) = All IsShellName package_names
DefinesName (Batch listed entries includes) = All (λ entry. DefinesBy (listed_form listed entry true)) entries
DefinesName _ = Unit {0}

-- Every name that the test of a question defines has the form of one. (own)
abbrev pub DefinesAsked : asks.Question → Type 0
DefinesAsked (Given kind variable) = Unit {0}
DefinesAsked (Tries kind program) = Unit {0}
DefinesAsked (Checks sought entry includes) = DefinesBy (sought_form sought entry false)
DefinesAsked (ChecksEach sought entries includes) = All (λ entry. DefinesBy (sought_form sought entry true)) entries
DefinesAsked (questions.Library library function others adds) = DefinesBy (library_form library function adds)
DefinesAsked (questions.Libraries function libraries others) = DefinesBy (search_form function libraries)

-- Every name that the beginning of a choice about this subject defines has the form of one. (own)
unfoldable pub DefinesAbout : subject.Subject → Type 0
DefinesAbout Nothing = Unit {0}
DefinesAbout (Word word) = Unit {0}
DefinesAbout (Asked question) = DefinesAsked question

-- Every name that a step defines has the form of one. (own)
abbrev pub DefinesIn : Instruction → Type 0
DefinesIn (Does effect) = DefinesName effect
DefinesIn (Looks variable program always) = Unit {0}
DefinesIn (Defaults variable value) = Unit {0}
DefinesIn (Begins subject) = DefinesAbout subject
DefinesIn (Skips_unless when steps) = Unit {0}
DefinesIn (Skips steps) = Unit {0}
DefinesIn (Opens message name steps) = Unit {0}
DefinesIn (Closes name) = Unit {0}

-- So does every name that the steps of a plan define. (own)
abbrev pub DefinesNames : List Instruction → Type 0
DefinesNames [] = Unit {0}
DefinesNames (step ∷ rest) = DefinesIn step × DefinesNames rest
