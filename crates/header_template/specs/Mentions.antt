-- The names that statements may define, with their descriptions, in order. Those in cases that a run doesn't take count too. The descriptions
-- of AC_DEFINE and AC_DEFINE_UNQUOTED are those of a table.
use Rattle.std.specs.Prelude.{ℕ, Bool, true, false, List, [], ◌∷◌, ◌++◌, map, codes}
use Rattle.ac_tree.specs.declared.listed.Listed.TheVariants.{Header, Function, Declaration}
use Rattle.ac_tree.specs.declared.listed.Sought.{Sought}
use Rattle.ac_tree.specs.declared.listed.Sought.TheVariants.{ListEntry, «Type»}
use Rattle.ac_tree.specs.declared.statement.Effect.{Effect}
use Rattle.ac_tree.specs.declared.statement.Effect.TheVariants.{Define, DefineText, Package, Batch}
use Rattle.ac_tree.specs.declared.statement.Question.{Question}
use Rattle.ac_tree.specs.declared.statement.Question.TheVariants.{ChecksEach, Library}
use Rattle.ac_tree.specs.declared.tree.Subject.{Subject}
use Rattle.ac_tree.specs.declared.tree.Subject.TheVariants.{Asked}
use Rattle.ac_tree.specs.Definitions.{sought_definition, library_definition}
use Rattle.ac_tree.specs.Script.{Script, Done, Then, Choice, Check, Cases, No_case, Case}
use Rattle.header_template.specs.Table.{described}

-- The names that AC_INIT defines. (Autoconf's manual, "Initializing configure"; the words are autoheader's)
unfoldable pub of_package : List (List ℕ × List ℕ)
of_package =
    (codes "PACKAGE_NAME", codes "Define to the full name of this package.")
    ∷ (codes "PACKAGE_TARNAME", codes "Define to the one symbol short name of this package.")
    ∷ (codes "PACKAGE_VERSION", codes "Define to the version of this package.")
    ∷ (codes "PACKAGE_STRING", codes "Define to the full name and version of this package.")
    ∷ (codes "PACKAGE_BUGREPORT", codes "Define to the address where bug reports for this package should be sent.")
    ∷ (codes "PACKAGE_URL", codes "Define to the home page for this package.") ∷ []

-- What is before the text that is looked for, in its description. (autoheader's words)
unfoldable pub before_sought : Sought → List ℕ
before_sought (ListEntry Header) = codes "Define to 1 if you have the <"
before_sought (ListEntry Function) = codes "Define to 1 if you have the `"
before_sought (ListEntry Declaration) = codes "Define to 1 if you have the declaration of `"
before_sought «Type» = codes "Define to 1 if the system has the type `"

-- What is after it. (autoheader's words)
unfoldable pub after_sought : Sought → List ℕ
after_sought (ListEntry Header) = codes "> header file."
after_sought (ListEntry Function) = codes "' function."
after_sought (ListEntry Declaration) = codes "', and to 0 if you don't."
after_sought «Type» = codes "'."

-- The name that what is looked for may define, and its description. (Autoconf's manual, "Generic Headers" to "Generic Types")
abbrev pub sought_mention : Sought → List ℕ → List ℕ × List ℕ
sought_mention sought text = (sought_definition sought text, before_sought sought ++ (text ++ after_sought sought))

-- What is before the name of a library in its description, between that and the name again, and after it. (autoheader's words)
unfoldable pub before_library : List ℕ
before_library = codes "Define to 1 if you have the `"

unfoldable pub within_library : List ℕ
within_library = codes "' library (-l"

unfoldable pub after_library : List ℕ
after_library = codes ")."

-- The name that a library may define, and its description. (Autoconf's manual, "Library Files")
abbrev pub library_mention : List ℕ → List ℕ × List ℕ
library_mention library = (library_definition library, before_library ++ (library ++ (within_library ++ (library ++ after_library))))

-- The same, if it defines it.
abbrev pub library_mentions : Bool → List ℕ → List (List ℕ × List ℕ)
library_mentions true library = library_mention library ∷ []
library_mentions false library = []

-- What a statement with no statements in it may define. (Autoconf's manual, "Initializing configure", "Defining Symbols" and "Generic
-- Headers" to "Generic Declarations")
abbrev pub mentioned_by : List (List ℕ × List ℕ) → Effect → List (List ℕ × List ℕ)
mentioned_by notes (Define name value) = (name, described notes name) ∷ []
mentioned_by notes (DefineText name value) = (name, described notes name) ∷ []
mentioned_by notes (Package title version bug tarname url) = of_package
mentioned_by notes (Batch listed entries includes) = map (sought_mention (ListEntry listed)) entries
mentioned_by notes _ = []

-- What the answer to a question may define. (Autoconf's manual, "Generic Headers" to "Generic Types" and "Library Files")
abbrev pub mentioned_asking : Question → List (List ℕ × List ℕ)
mentioned_asking (ChecksEach sought entries includes) = map (sought_mention sought) entries
mentioned_asking (Library library function others adds) = library_mentions adds library
mentioned_asking _ = []

-- What the subject of a choice may define. (own)
abbrev pub mentioned_about : Subject → List (List ℕ × List ℕ)
mentioned_about (Asked question) = mentioned_asking question
mentioned_about _ = []

abbrev mutual
  -- What statements may define. (own)
  pub mentions_in : List (List ℕ × List ℕ) → Script → List (List ℕ × List ℕ)
  mentions_in notes Done = []
  mentions_in notes (Then declares effect rest) = mentioned_by notes effect ++ mentions_in notes rest
  mentions_in notes (Choice declares subject cases rest) = (mentioned_about subject ++ mentions_in_cases notes cases) ++ mentions_in notes rest
  mentions_in notes (Check message name commands rest) = mentions_in notes commands ++ mentions_in notes rest

  -- What the statements of cases may define. (own)
  pub mentions_in_cases : List (List ℕ × List ℕ) → Cases → List (List ℕ × List ℕ)
  mentions_in_cases notes No_case = []
  mentions_in_cases notes (Case when body more) = mentions_in notes body ++ mentions_in_cases notes more
