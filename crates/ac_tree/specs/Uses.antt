-- What statements and questions use: the view of them by which a source can be resumed or not.
use Rattle.std.specs.Prelude.{ℕ, Bool, true, false, List, [], ◌∷◌, ◌++◌, Option, Some, None, map, option_map, option_to_list}
use Rattle.shellword.specs.declared.part.Part.{Part}
use Rattle.shellword.specs.declared.part.Part.TheVariants as parts
use Rattle.ac_tree.specs.declared.program.Program.{Program}
use Rattle.ac_tree.specs.declared.program.Program.TheVariants as programs
use Rattle.ac_tree.specs.declared.statement.Declares.{Declares}
use Rattle.ac_tree.specs.declared.statement.Declares.TheVariants as declares
use Rattle.ac_tree.specs.declared.statement.Effect.{Effect}
use Rattle.ac_tree.specs.declared.statement.Effect.TheVariants.{Nothing, Assign, Define, DefineText, Print, Stop, Package, Search, Searches, Batch, Complete}
use Rattle.ac_tree.specs.declared.statement.ProgramValue.{ProgramValue}
use Rattle.ac_tree.specs.declared.statement.ProgramValue.TheVariants.{Text, FullName}
use Rattle.ac_tree.specs.declared.statement.Question.{Question}
use Rattle.ac_tree.specs.declared.statement.Question.TheVariants.{Given, Tries, Checks, ChecksEach, Library, Libraries}
use Rattle.ac_tree.specs.declared.uses.Reads.{Reads}
use Rattle.ac_tree.specs.declared.uses.Reads.TheVariants as reads
use Rattle.ac_tree.specs.declared.uses.Uses as code
use Rattle.ac_tree.specs.TestNames.{entry_name, sought_name, library_name, libraries_name, program_name, search_name}

-- The variable that a statement or a question assigns, if it assigns one; the texts whose variables it reads; the names that
-- it tests, in order; whether a test of it may leave its name unset; and whether it tries a program. (own)
pub record Uses : Type 0 where
  pub assigns : Option (List ℕ)
  pub reads : List (List Part)
  pub tests : List (List ℕ)
  pub alone : Bool
  pub tries : Bool

-- These texts are read, and nothing else is used. (own)
abbrev pub reading : List (List Part) → Uses
reading texts = record { assigns = None; reads = texts; tests = []; alone = false; tries = false }

-- A variable is assigned, after these texts are read. (own)
abbrev pub assigning : List ℕ → List (List Part) → Uses
assigning variable texts = record { assigns = Some variable; reads = texts; tests = []; alone = false; tries = false }

-- These names are tested, after a text is read, if there is one. Each test leaves its name set. (Autoconf's manual, "Generic
-- Headers" to "Generic Types" and "Library Files")
abbrev pub testing : List (List ℕ) → Option (List Part) → Uses
testing names text = record { assigns = None; reads = option_to_list text; tests = names; alone = false; tries = false }

-- A program is looked for by a test of this name, which leaves the name unset if there is no program and no other value.
-- (Autoconf's manual, "Generic Programs")
abbrev pub searching : List ℕ → List ℕ → List (List Part) → Uses
searching variable name texts = record { assigns = Some variable; reads = texts; tests = name ∷ []; alone = true; tries = false }

-- A declaration alone: AC_SUBST without a value reads its variable. (own)
abbrev pub uses_declared : Declares → Uses
uses_declared (declares.Variable name) = reading ((parts.Variable name ∷ []) ∷ [])
uses_declared _ = reading []

-- The text of the value that a variable gets if its program is found, if there is one. (own)
abbrev pub value_text : ProgramValue → List (List Part)
value_text (Text text) = text ∷ []
value_text FullName = []

-- A statement with no statements in it, by what it declares and does. AC_CHECK_PROGS and AC_PROG_CC test one name for all
-- their programs. (own)
abbrev pub uses_of : Declares → Effect → Uses
uses_of declared Nothing = uses_declared declared
uses_of declared (Assign name value) = assigning name (value ∷ [])
uses_of declared (Define name value) = reading []
uses_of declared (DefineText name value) = reading (value ∷ [])
uses_of declared (Print message text) = reading (text ∷ [])
uses_of declared (Stop text status) = reading (text ∷ [])
uses_of declared (Package title version bug tarname url) = reading []
uses_of declared (Search variable program value otherwise) =
    searching variable (search_name value variable) (value_text value ++ option_to_list otherwise)
uses_of declared (Searches variable programs otherwise) = searching variable (program_name variable) (option_to_list otherwise)
uses_of declared (Batch listed entries includes) = testing (map (entry_name listed) entries) includes
uses_of declared Complete = reading []

-- The texts of a program that is tried. (Autoconf's manual, "Generating Sources")
abbrev pub program_texts : Program → List (List Part)
program_texts (programs.Program prologue body) = prologue ∷ body ∷ []
program_texts (programs.Whole text) = text ∷ []

-- A question. The variable of an option is assigned by the command line. (own)
abbrev pub uses_asked : Question → Uses
uses_asked (Given kind variable) = assigning variable []
uses_asked (Tries kind program) = record { assigns = None; reads = program_texts program; tests = []; alone = false; tries = true }
uses_asked (Checks sought entry includes) = testing (sought_name sought entry ∷ []) includes
uses_asked (ChecksEach sought entries includes) = testing (map (sought_name sought) entries) includes
uses_asked (Library library function others adds) = testing (library_name library function ∷ []) others
uses_asked (Libraries function libraries others) = testing (libraries_name function ∷ []) others

-- ---- the code's view

-- The texts that the code's view has. (own)
abbrev pub texts_read : Reads → List (List Part)
texts_read reads.Nothing = []
texts_read (reads.Variable name) = (parts.Variable name.now ∷ []) ∷ []
texts_read (reads.Text text) = text.now ∷ []
texts_read (reads.Texts first second) = first.now ∷ second.now ∷ []

-- What the code's view says. (own)
abbrev pub used : code.Uses → Uses
used u = record { assigns = option_map (λ n. n.now) u.assigns; reads = texts_read u.reads; tests = u.tests; alone = u.alone; tries = u.tries }
