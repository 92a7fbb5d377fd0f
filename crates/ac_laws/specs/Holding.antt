-- Where an argument holds a call: AS_HELP_STRING in a help argument, and the program of a check.
use Rattle.std.specs.Prelude.{◌≡◌, ◌↔◌, ℕ, true, List, [], ◌∷◌, ◌++◌, codes, Ok, Err, Some}
use Rattle.std.specs.List.{AllByRecursion}
use Rattle.m4quote.specs.declared.fault.QuoteFault.{QuoteFault}
use Rattle.m4quote.specs.Faults.{IsFirstFault}
use Rattle.m4quote.specs.ItemValue.{Span, ItemValue, call, bare}
use Rattle.m4quote.specs.Spelling.{IsSpelling}
use Rattle.m4quote.specs.Used.{IsUsed}
use Rattle.ac_statement.specs.declared.fault.ParseFault.{ParseFault}
use Rattle.ac_statement.specs.declared.fault.ParseFault.TheVariants.{Quote}
use Rattle.ac_statement.specs.Inside.{are_blank, call_items}
use Rattle.ac_statement.specs.Standing.{IsRun, IsAllBut}
use Rattle.ac_tree.specs.declared.help.Help.{Help}
use Rattle.ac_tree.specs.declared.help.Help.TheVariants.{Columns, Text}
use Rattle.ac_tree.specs.declared.program.Program.{Program}
use Rattle.ac_args.specs.Help.{Called, sole_call, help}
use Rattle.ac_macros.specs.Tries.{lang_program, lang_source, tried_program}

-- ---- the items

-- The argument is one quoted run with blanks and `dnl` lines around it, and this is the inside of the run. (GNU M4's
-- manual, "Quoting macro arguments")
pub record IsQuotedRun (arg inside : Span) : Type 0 where
  pub items : List ItemValue
  pub text : Span
  pub spelling : IsSpelling arg.at arg.text items
  pub alone : IsAllBut items text
  pub run : IsRun text inside

-- The argument holds these items: those of the inside, if it is one quoted run, and otherwise its own. (own: Autoconf
-- expands both)
pub data HoldsItems (arg : Span) (items : List ItemValue) : Type 0 where
  in_run : (inside : Span) → IsQuotedRun arg inside → IsSpelling inside.at inside.text items → HoldsItems arg items
  its_own : ((inside : Span) → IsQuotedRun arg inside → ⊥) → IsSpelling arg.at arg.text items → HoldsItems arg items

-- ---- one call

-- The items are a call of this name, and blanks and `dnl` lines beside it. (own)
pub record IsCallAlone (name : List ℕ) (items : List ItemValue) (called : Called) : Type 0 where
  pub before : List ItemValue
  pub after : List ItemValue
  pub parts : items ≡ before ++ call name called.args called.at ∷ after
  pub blank_before : are_blank before ≡ true
  pub blank_after : are_blank after ≡ true

-- The item is no call of this name. (own)
abbrev pub IsNoCallOf : List ℕ → ItemValue → Type 0
IsNoCallOf name (call other args at) = other ≡ name → ⊥
IsNoCallOf name (bare text at) = Unit {0}

-- The text has this part. (own)
pub record HasPart (part text : List ℕ) : Type 0 where
  pub before : List ℕ
  pub after : List ℕ
  pub is : text ≡ before ++ (part ++ after)

-- The macro of help entries. (Autoconf's manual, "Making Your Help Strings Look Pretty")
abbrev pub help_string : List ℕ
help_string = codes "AS_HELP_STRING"

-- ---- help

-- The help that an argument gives: the two used texts of AS_HELP_STRING, if it holds that call alone, and its own used
-- text, if it holds no such call. If it holds no items, AS_HELP_STRING is not in it, also not in quotes. (Autoconf's
-- manual, "Making Your Help Strings Look Pretty")
pub data IsHelp (arg : Span) : Help → Type 0 where
  columns : {items : List ItemValue} {at : ℕ} {left right : Span} {left_text right_text : List ℕ} → HoldsItems arg items
      → IsCallAlone help_string items (record { args = left ∷ right ∷ []; at = at })
      → IsUsed left.text left_text → IsUsed right.text right_text → IsHelp arg (Columns left_text right_text)
  without_call : {items : List ItemValue} {text : List ℕ} → HoldsItems arg items → AllByRecursion (IsNoCallOf help_string) items
      → IsUsed arg.text text → IsHelp arg (Text text)
  without_items : {text : List ℕ} → ((items : List ItemValue) → HoldsItems arg items → ⊥) → (HasPart help_string arg.text → ⊥)
      → IsUsed arg.text text → IsHelp arg (Text text)

-- ---- the program of a check

-- The program that an argument gives: that of AC_LANG_PROGRAM or of AC_LANG_SOURCE, if it holds one of these calls
-- alone. (Autoconf's manual, "Generating Sources")
pub data IsProgram (arg : Span) (program : Program) : Type 0 where
  lang_program_alone : {items : List ItemValue} {called : Called} → HoldsItems arg items
      → IsCallAlone (codes "AC_LANG_PROGRAM") items called → lang_program called.args called.at ≡ Ok program → IsProgram arg program
  lang_source_alone : {items : List ItemValue} {called : Called} → HoldsItems arg items
      → IsCallAlone (codes "AC_LANG_SOURCE") items called → lang_source called.args called.at ≡ Ok program → IsProgram arg program

-- ---- the first error

-- The items of an argument have this error: those of the inside, if it is one quoted run, and otherwise its own. (own)
pub data HasItemsFault (arg : Span) : ParseFault → Type 0 where
  in_run_fault : (inside : Span) {fault : QuoteFault} → IsQuotedRun arg inside → IsFirstFault inside.at inside.text fault → HasItemsFault arg (Quote fault)
  own_fault : {fault : QuoteFault} → IsFirstFault arg.at arg.text fault → HasItemsFault arg (Quote fault)

-- ---- the laws

-- The reader finds the items that an argument holds. (own)
abbrev pub ItemsAreHeld : Type 0
ItemsAreHeld = (arg : Span) (items : List ItemValue) → (call_items arg ≡ Ok items) ↔ HoldsItems arg items

-- It finds a call exactly if the call is alone. (own)
abbrev pub CallsAreAlone : Type 0
CallsAreAlone = (name : List ℕ) (items : List ItemValue) (called : Called) → (sole_call name items ≡ Some called) ↔ IsCallAlone name items called

-- It finds no items exactly if they have an error, and then the first one. (own)
abbrev pub ItemsAreRefused : Type 0
ItemsAreRefused = (arg : Span) (fault : ParseFault) → (call_items arg ≡ Err fault) ↔ HasItemsFault arg fault

-- It finds the help that an argument gives. (own)
abbrev pub HelpIsGiven : Type 0
HelpIsGiven = (arg : Span) (given : Help) → (help arg ≡ Ok given) ↔ IsHelp arg given

-- It refuses a help argument that has AS_HELP_STRING and whose items can't be read, with the error of the items. (own)
abbrev pub UnreadHelpIsRefused : Type 0
UnreadHelpIsRefused = (arg : Span) (fault : ParseFault) → HasItemsFault arg fault → HasPart help_string arg.text → help arg ≡ Err fault

-- It finds the program that an argument gives. (own)
abbrev pub ProgramIsGiven : Type 0
ProgramIsGiven = (arg : Span) (program : Program) → (tried_program arg ≡ Ok program) ↔ IsProgram arg program
