-- What a source gives its templates: output variables and definitions, by its statements. Those in cases that a run doesn't take
-- count too.
use Rattle.std.specs.Prelude.{ℕ, Bool, true, false, List, [], ◌∷◌, ◌++◌, map, codes}
use Rattle.options_line.specs.Directories.{directory_names}
use Rattle.output_list.specs.declared.output.Output.{Output}
use Rattle.ac_tree.specs.declared.listed.Sought.TheVariants.{ListEntry}
use Rattle.ac_tree.specs.declared.statement.Effect.{Effect}
use Rattle.ac_tree.specs.declared.statement.Effect.TheVariants.{Define, DefineText, Batch}
use Rattle.ac_tree.specs.declared.statement.Question.{Question}
use Rattle.ac_tree.specs.declared.statement.Question.TheVariants.{ChecksEach, Library}
use Rattle.ac_tree.specs.declared.tree.Subject.{Subject}
use Rattle.ac_tree.specs.declared.tree.Subject.TheVariants.{Asked}
use Rattle.ac_tree.specs.Definitions.{sought_definition, library_definition}
use Rattle.ac_tree.specs.Lists.{lists_of}
use Rattle.ac_tree.specs.Script.{Script, Done, Then, Choice, Check, Cases, No_case, Case}
use Rattle.lint_templates.specs.Names.{with_all}

-- The output variables that each file has. (Autoconf's manual, "Preset Output Variables")
unfoldable pub preset : List (List ℕ)
preset =
    codes "configure_input" ∷ codes "srcdir" ∷ codes "top_srcdir" ∷ codes "builddir" ∷ codes "top_builddir" ∷ codes "LIBS" ∷ []

-- The names that AC_INIT defines, which are output variables too. (Autoconf's manual, "Initializing configure")
unfoldable pub of_package : List (List ℕ)
of_package =
    codes "PACKAGE_NAME" ∷ codes "PACKAGE_TARNAME" ∷ codes "PACKAGE_VERSION" ∷ codes "PACKAGE_STRING" ∷ codes "PACKAGE_BUGREPORT"
    ∷ codes "PACKAGE_URL" ∷ []

-- DEFS, if the source makes a header. (Autoconf's manual, "Preset Output Variables")
abbrev pub defs_for : List Output → List (List ℕ)
defs_for [] = []
defs_for (header ∷ more) = codes "DEFS" ∷ []

-- The output variables: those that each file has, those of AC_INIT, the directories, what statements name, and DEFS. (Autoconf's
-- manual, "Preset Output Variables", "Installation Directory Variables" and "Setting Output Variables")
unfoldable pub variables_of : Script → List (List ℕ)
variables_of s = with_all [] (preset ++ of_package ++ directory_names ++ (lists_of s).substituted ++ defs_for (lists_of s).headers)

-- The names that a statement with no statements in it may define. (Autoconf's manual, "Defining Symbols" and "Generic Headers" to
-- "Generic Declarations")
abbrev pub defined_by : Effect → List (List ℕ)
defined_by (Define name value) = name ∷ []
defined_by (DefineText name value) = name ∷ []
defined_by (Batch listed entries includes) = map (sought_definition (ListEntry listed)) entries
defined_by _ = []

-- The name that a library may define. (Autoconf's manual, "Library Files")
abbrev pub defined_if : Bool → List ℕ → List (List ℕ)
defined_if true library = library_definition library ∷ []
defined_if false library = []

-- The names that the answer to a question may define. (Autoconf's manual, "Generic Headers" to "Generic Types" and "Library Files")
abbrev pub defined_asking : Question → List (List ℕ)
defined_asking (ChecksEach sought entries includes) = map (sought_definition sought) entries
defined_asking (Library library function others adds) = defined_if adds library
defined_asking _ = []

-- The names that the subject of a choice may define. (own)
abbrev pub defined_about : Subject → List (List ℕ)
defined_about (Asked question) = defined_asking question
defined_about _ = []

abbrev mutual
  -- The names that statements may define, in order. (own)
  pub defined_in : Script → List (List ℕ)
  defined_in Done = []
  defined_in (Then declares effect rest) = defined_by effect ++ defined_in rest
  defined_in (Choice declares subject cases rest) = defined_about subject ++ defined_in_cases cases ++ defined_in rest
  defined_in (Check message name commands rest) = defined_in commands ++ defined_in rest

  -- The names that the statements of cases may define, in order. (own)
  pub defined_in_cases : Cases → List (List ℕ)
  defined_in_cases No_case = []
  defined_in_cases (Case when body more) = defined_in body ++ defined_in_cases more

-- The names for the templates of these headers: those of AC_INIT, and those that statements may define. Without a header there is no
-- template that could list one. (own)
abbrev pub defined_for : List Output → Script → List (List ℕ)
defined_for [] s = []
defined_for (header ∷ more) s = with_all [] (of_package ++ defined_in s)

-- The definitions that a run may make, if the source makes a header. (own)
unfoldable pub definitions_of : Script → List (List ℕ)
definitions_of s = defined_for (lists_of s).headers s
