-- The first error of items: everything before it, in its list and in each list around it, has statements, and it names
-- what is wrong at its offset.
use Rattle.std.specs.Prelude.{◌≡◌, ℕ, zero, suc, ◌⊎◌, false, List, [], ◌∷◌, drop, Some, None, Ok, Err}
use Rattle.m4quote.specs.ItemValue.{Span, ItemValue, call, bare}
use Rattle.m4quote.specs.Faults.{IsFirstFault}
use Rattle.m4quote.specs.Spelling.{IsSpelling}
use Rattle.m4quote.specs.declared.fault.QuoteFault.{QuoteFault}
use Rattle.ac_statement.specs.declared.fault.ParseFault.{ParseFault}
use Rattle.ac_statement.specs.declared.fault.ParseFault.TheVariants.{UnknownMacro, UnknownStatement, ArgCount, TooDeep}
use Rattle.ac_statement.specs.declared.placement.LineStart.{LineStart}
use Rattle.ac_statement.specs.Inside.{inside}
use Rattle.ac_statement.specs.Texts.{arg_at}
use Rattle.ac_args.specs.Arguments.{cache_name}
use Rattle.ac_args.specs.Shell.{here_text}
use Rattle.shellword.specs.declared.part.Part.{Part}
use Rattle.ac_statement.specs.Reading.{quote_fault}
use Rattle.ac_statement.specs.Stand.{line_start_of, no_line_start, is_statement}
use Rattle.ac_macros.specs.declared.macros.ArgumentMacro.{ArgumentMacro}
use Rattle.ac_macros.specs.declared.macros.ChoiceMacro.{ChoiceMacro}
use Rattle.ac_macros.specs.declared.macros.Macro.{Macro}
use Rattle.ac_macros.specs.declared.macros.Macro.TheVariants.{Plain, Choice as A_choice, Question as A_question, Check as A_check}
use Rattle.ac_macros.specs.declared.table.Row.{Row}
use Rattle.ac_macros.specs.declared.macros.Named.TheVariants.{Statement, Argument as An_argument}
use Rattle.ac_macros.specs.declared.macros.QuestionMacro.{QuestionMacro}
use Rattle.ac_macros.specs.declared.macros.PlainMacro.{PlainMacro}
use Rattle.ac_tree.specs.declared.declarations.Declarations as declarations
use Rattle.ac_tree.specs.declared.declarations.Stage.{Stage}
use Rattle.ac_tree.specs.declared.statement.Declares.{Declares}
use Rattle.ac_tree.specs.declared.statement.Question.{Question}
use Rattle.ac_macros.specs.Checks.{completed_of}
use Rattle.ac_macros.specs.Rows.{plain_of, question_of}
use Rattle.ac_macros.specs.Placement.{bare_fault, placed}
use Rattle.ac_macros.specs.ListKind.{ListKind, Commands, is_top, of_case, may_hold}
use Rattle.ac_macros.specs.Table.{row_named, takes}
use Rattle.ac_tree.specs.declared.tree.Subject.{Subject}
use Rattle.ac_tree.specs.declared.tree.When.{When}
use Rattle.ac_tree.specs.declared.tree.When.TheVariants.{Yes, No}
use Rattle.ac_tree.specs.Lists.{after, after_all, after_cases}
use Rattle.ac_tree.specs.Script.{Script, Cases}
use Rattle.acparse.specs.Bare.{bare_of}
use Rattle.acparse.specs.Profile.{when_of, subject_of, case_args, action_args}
use Rattle.acparse.specs.Statements.{Within, MayStand, IsAction, IsItem, IsBody}

-- The first error of a statement argument, given what has been declared before it. (own)
abbrev pub WithinBreaks : Type 1
WithinBreaks = declarations.Declarations → Span → ParseFault → Type 0

-- A call is no statement here: its macro is unknown, takes other arguments, is read only in arguments, or isn't allowed
-- here, or the call isn't separate from other text, or the list may not hold it. (own)
pub data MayNotStand (list_kind : ListKind) (stage : Stage) (line_start : LineStart) (name : List ℕ) (args : List Span) (at : ℕ) (following : List ItemValue) : ParseFault → Type 0 where
  unknown : row_named name ≡ None → MayNotStand list_kind stage line_start name args at following (UnknownMacro at)
  other_arguments : {row : Row} → row_named name ≡ Some row → takes row args ≡ false → MayNotStand list_kind stage line_start name args at following (ArgCount at)
  in_arguments_alone : {row : Row} {m : ArgumentMacro} → row_named name ≡ Some row → row.named ≡ An_argument m → MayNotStand list_kind stage line_start name args at following (bare_fault stage at)
  not_here : {row : Row} {m : Macro} {f : ParseFault} → row_named name ≡ Some row → row.named ≡ Statement m → placed (is_top list_kind) stage row.top m at ≡ Err f → MayNotStand list_kind stage line_start name args at following f
  in_text : {row : Row} {m : Macro} → row_named name ≡ Some row → row.named ≡ Statement m → is_statement line_start name args at following ≡ false → MayNotStand list_kind stage line_start name args at following (UnknownStatement at)
  not_held : {row : Row} {m : Macro} {f : ParseFault} → row_named name ≡ Some row → row.named ≡ Statement m → may_hold list_kind m ≡ Err f → MayNotStand list_kind stage line_start name args at following f

-- An argument among cases has an error, and those before it have none. (own)
pub data CasesBreak (Inside : Within) (Broken : WithinBreaks) (m : ChoiceMacro) : declarations.Declarations → List Span → ParseFault → Type 0 where
  in_condition : {c : declarations.Declarations} {condition arg : Span} {more : List Span} {f : ParseFault}
      → when_of m condition ≡ Err f → CasesBreak Inside Broken m c (condition ∷ arg ∷ more) f
  in_body : {c : declarations.Declarations} {condition arg : Span} {more : List Span} {when : When} {f : ParseFault}
      → when_of m condition ≡ Ok when → Broken c arg f → CasesBreak Inside Broken m c (condition ∷ arg ∷ more) f
  after_case : {c : declarations.Declarations} {condition arg : Span} {more : List Span} {when : When} {body : Script} {f : ParseFault}
      → when_of m condition ≡ Ok when → Inside c arg body → CasesBreak Inside Broken m (after_all c body) more f
      → CasesBreak Inside Broken m c (condition ∷ arg ∷ more) f
  in_default : {c : declarations.Declarations} {arg : Span} {f : ParseFault} → Broken c arg f → CasesBreak Inside Broken m c (arg ∷ []) f

-- The first of these arguments has an error. (own)
pub data ActionBreaks (Broken : WithinBreaks) : declarations.Declarations → List Span → ParseFault → Type 0 where
  in_action : {c : declarations.Declarations} {arg : Span} {more : List Span} {f : ParseFault} → Broken c arg f → ActionBreaks Broken c (arg ∷ more) f

-- An item has an error: bare text isn't statements, a call isn't allowed, or an argument of it doesn't have its form.
-- (own)
pub data ItemBreaks (list_kind : ListKind) (Inside : ListKind → Within) (Broken : ListKind → WithinBreaks) (c : declarations.Declarations) (line_start : LineStart) : ItemValue → List ItemValue → ParseFault → Type 0 where
  other_text : {text : List ℕ} {at : ℕ} {following : List ItemValue} {f : ParseFault} → bare_of list_kind c.stage at text ≡ Err f → ItemBreaks list_kind Inside Broken c line_start (bare text at) following f
  may_not_stand : {name : List ℕ} {args : List Span} {at : ℕ} {following : List ItemValue} {f : ParseFault}
      → MayNotStand list_kind c.stage line_start name args at following f → ItemBreaks list_kind Inside Broken c line_start (call name args at) following f
  argument : {name : List ℕ} {args : List Span} {at : ℕ} {following : List ItemValue} {m : PlainMacro} {f : ParseFault}
      → MayStand list_kind c.stage line_start name args at following (Plain m) → plain_of c m at args ≡ Err f → ItemBreaks list_kind Inside Broken c line_start (call name args at) following f
  in_subject : {name : List ℕ} {args : List Span} {at : ℕ} {following : List ItemValue} {m : ChoiceMacro} {f : ParseFault}
      → MayStand list_kind c.stage line_start name args at following (A_choice m) → subject_of m args ≡ Err f → ItemBreaks list_kind Inside Broken c line_start (call name args at) following f
  in_cases : {name : List ℕ} {args : List Span} {at : ℕ} {following : List ItemValue} {m : ChoiceMacro} {subject : Subject} {f : ParseFault}
      → MayStand list_kind c.stage line_start name args at following (A_choice m) → subject_of m args ≡ Ok subject → CasesBreak (Inside (of_case list_kind)) (Broken (of_case list_kind)) m c (case_args m args) f
      → ItemBreaks list_kind Inside Broken c line_start (call name args at) following f
  in_question : {name : List ℕ} {args : List Span} {at : ℕ} {following : List ItemValue} {m : QuestionMacro} {f : ParseFault}
      → MayStand list_kind c.stage line_start name args at following (A_question m) → question_of c m args ≡ Err f → ItemBreaks list_kind Inside Broken c line_start (call name args at) following f
  in_yes : {name : List ℕ} {args : List Span} {at : ℕ} {following : List ItemValue} {m : QuestionMacro} {declares : Declares} {q : Question} {f : ParseFault}
      → MayStand list_kind c.stage line_start name args at following (A_question m) → question_of c m args ≡ Ok (declares, q) → ActionBreaks (Broken (of_case list_kind)) (after c declares) (action_args m args) f
      → ItemBreaks list_kind Inside Broken c line_start (call name args at) following f
  in_no : {name : List ℕ} {args : List Span} {at : ℕ} {following : List ItemValue} {m : QuestionMacro} {declares : Declares} {q : Question} {first : Cases} {f : ParseFault}
      → MayStand list_kind c.stage line_start name args at following (A_question m) → question_of c m args ≡ Ok (declares, q)
      → IsAction (Inside (of_case list_kind)) Yes (after c declares) (action_args m args) first
      → ActionBreaks (Broken (of_case list_kind)) (after_cases (after c declares) first) (drop 1 (action_args m args)) f
      → ItemBreaks list_kind Inside Broken c line_start (call name args at) following f
  in_includes : {name : List ℕ} {args : List Span} {at : ℕ} {following : List ItemValue} {m : QuestionMacro} {declares : Declares} {q : Question} {first other : Cases} {f : ParseFault}
      → MayStand list_kind c.stage line_start name args at following (A_question m) → question_of c m args ≡ Ok (declares, q)
      → IsAction (Inside (of_case list_kind)) Yes (after c declares) (action_args m args) first
      → IsAction (Inside (of_case list_kind)) No (after_cases (after c declares) first) (drop 1 (action_args m args)) other
      → completed_of q args ≡ Err f
      → ItemBreaks list_kind Inside Broken c line_start (call name args at) following f
  in_message : {name : List ℕ} {args : List Span} {at : ℕ} {following : List ItemValue} {f : ParseFault}
      → MayStand list_kind c.stage line_start name args at following A_check → here_text (arg_at args 0) ≡ Err f → ItemBreaks list_kind Inside Broken c line_start (call name args at) following f
  in_name : {name : List ℕ} {args : List Span} {at : ℕ} {following : List ItemValue} {message : List Part} {f : ParseFault}
      → MayStand list_kind c.stage line_start name args at following A_check → here_text (arg_at args 0) ≡ Ok message → cache_name (arg_at args 1) ≡ Err f
      → ItemBreaks list_kind Inside Broken c line_start (call name args at) following f
  in_commands : {name : List ℕ} {args : List Span} {at : ℕ} {following : List ItemValue} {message : List Part} {variable : List ℕ} {f : ParseFault}
      → MayStand list_kind c.stage line_start name args at following A_check → here_text (arg_at args 0) ≡ Ok message → cache_name (arg_at args 1) ≡ Ok variable
      → Broken (Commands variable (arg_at args 2).at) c (arg_at args 2) f
      → ItemBreaks list_kind Inside Broken c line_start (call name args at) following f

-- The first item with an error, after items that have statements. (own)
pub data Breaks (list_kind : ListKind) (Inside : ListKind → Within) (Broken : ListKind → WithinBreaks) : declarations.Declarations → LineStart → List ItemValue → ParseFault → Type 0 where
  here : {c : declarations.Declarations} {line_start : LineStart} {item : ItemValue} {items : List ItemValue} {f : ParseFault}
      → ItemBreaks list_kind Inside Broken c line_start item items f → Breaks list_kind Inside Broken c line_start (item ∷ items) f
  following : {c : declarations.Declarations} {line_start : LineStart} {item : ItemValue} {items : List ItemValue} {first : Script} {f : ParseFault}
      → IsItem list_kind Inside c line_start item items first → Breaks list_kind Inside Broken (after_all c first) (line_start_of item) items f
      → Breaks list_kind Inside Broken c line_start (item ∷ items) f

-- The text that an argument denotes has an error: it can't be read as items, or an item has an error. (own)
pub data TextBreaks (list_kind : ListKind) (Inside : ListKind → Within) (Broken : ListKind → WithinBreaks) (c : declarations.Declarations) (a : Span) : ParseFault → Type 0 where
  no_items : {q : QuoteFault} → IsFirstFault a.at a.text q → TextBreaks list_kind Inside Broken c a (quote_fault q)
  in_items : {items : List ItemValue} {f : ParseFault} → IsSpelling a.at a.text items → Breaks list_kind Inside Broken c no_line_start items f → TextBreaks list_kind Inside Broken c a f

-- A statement argument has an error: it nests too deep, denotes no text, or its text has an error. (own)
abbrev pub IsBroken : ℕ → ListKind → WithinBreaks
IsBroken zero list_kind c arg f = f ≡ TooDeep arg.at
IsBroken (suc room) list_kind c arg f = (inside arg ≡ Err f) ⊎ ((a : Span) × (inside arg ≡ Ok a) × TextBreaks list_kind (IsBody room) (IsBroken room) c a f)
