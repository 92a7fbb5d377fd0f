-- How far a source is after its statements, and the lists that they declare, also in cases that a run does not take.
-- (Autoconf's manual, the sections of the macros; that files count in every case is own)
use Rattle.std.specs.Prelude.{ℕ, List, [], ◌∷◌, ◌++◌, codes}
use Rattle.deftable.specs.NameList.{with_name}
use Rattle.ac_tree.specs.declared.declarations.Declarations as declarations
use Rattle.ac_tree.specs.declared.declarations.Stage.TheVariants.{Before, Open, Ended}
use Rattle.ac_tree.specs.declared.feature.OptionKind.TheVariants.{Feature, Package}
use Rattle.ac_tree.specs.declared.help.Help.TheVariants.{Columns}
use Rattle.ac_tree.specs.declared.help.Help.{Help}
use Rattle.ac_tree.specs.declared.feature.OptionKind.{OptionKind}
use Rattle.output_list.specs.declared.output.Output.{Output}
use Rattle.ac_tree.specs.declared.statement.Declares.{Declares}
use Rattle.ac_tree.specs.declared.statement.Declares.TheVariants as declares
use Rattle.ac_tree.specs.declared.statement.OutputKind.{OutputKind}
use Rattle.ac_tree.specs.declared.statement.OutputKind.TheVariants.{File, Header}
use Rattle.ac_tree.specs.Script.{Script, Done, Then, Choice, Check, Cases, No_case, Case}

-- The declarations before the first statement. (own)
abbrev pub start : declarations.Declarations
start = record { stage = Before; substituted = []; precious = []; features = []; packages = []; help = []; files = []; headers = [] }

-- A precious variable is an output variable too, and has help. (Autoconf's manual, "Setting Output Variables")
abbrev pub with_precious : declarations.Declarations → List ℕ → List ℕ → declarations.Declarations
with_precious c name help =
    record c { substituted = with_name c.substituted name; precious = with_name c.precious name; help = c.help ++ Columns name help ∷ [] }

-- A variable of the compiler is precious, and an output variable. (Autoconf's manual, "C Compiler")
abbrev pub with_tool : declarations.Declarations → List ℕ → declarations.Declarations
with_tool c name = record c { substituted = with_name c.substituted name; precious = with_name c.precious name }

-- The variables of the compiler. (Autoconf's manual, "C Compiler")
abbrev pub with_tools : declarations.Declarations → declarations.Declarations
with_tools c =
    with_tool (with_tool (with_tool (with_tool (with_tool c (codes "CC")) (codes "CFLAGS")) (codes "LDFLAGS")) (codes "LIBS")) (codes "CPPFLAGS")

-- Outputs of a kind are appended. (Autoconf's manual, "Configuration Files" and "Configuration Headers")
abbrev pub with_outputs : declarations.Declarations → OutputKind → List Output → declarations.Declarations
with_outputs c File outputs = record c { files = c.files ++ outputs }
with_outputs c Header outputs = record c { headers = c.headers ++ outputs }

-- An option has help. (Autoconf's manual, "Choosing Package Options" and "External Software")
abbrev pub with_option : declarations.Declarations → OptionKind → List ℕ → Help → declarations.Declarations
with_option c Feature variable help = record c { features = with_name c.features variable; help = c.help ++ help ∷ [] }
with_option c Package variable help = record c { packages = with_name c.packages variable; help = c.help ++ help ∷ [] }

-- The declarations after a statement that declares this. (Autoconf's manual, the sections of the macros)
unfoldable pub after : declarations.Declarations → Declares → declarations.Declarations
after c declares.Nothing = c
after c declares.Begin = record c { stage = Open }
after c declares.End = record c { stage = Ended }
after c (declares.Outputs kind outputs) = with_outputs c kind outputs
after c (declares.Variable name) = record c { substituted = with_name c.substituted name }
after c (declares.Precious name help) = with_precious c name help
after c declares.Compiler = with_tools c
after c (declares.Option kind variable help) = with_option c kind variable help

-- The declarations after all statements, also those of cases that a run does not take. (own)
abbrev mutual
  pub after_all : declarations.Declarations → Script → declarations.Declarations
  after_all c Done = c
  after_all c (Then declares effect rest) = after_all (after c declares) rest
  after_all c (Choice declares subject cases rest) = after_all (after_cases (after c declares) cases) rest
  after_all c (Check message name commands rest) = after_all (after_all c commands) rest

  -- The declarations after all cases of a choice. (own)
  pub after_cases : declarations.Declarations → Cases → declarations.Declarations
  after_cases c No_case = c
  after_cases c (Case when body more) = after_cases (after_all c body) more

-- The lists that the statements of a source declare. (own)
abbrev pub lists_of : Script → declarations.Declarations
lists_of s = after_all start s
