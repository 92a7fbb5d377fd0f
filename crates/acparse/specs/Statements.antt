-- Which statements items have. There is no order of reading: there is a case for each form of item.
use Rattle.std.specs.Prelude.{◌≡◌, ℕ, zero, suc, true, List, [], ◌∷◌, drop, Some, Ok}
use Rattle.m4quote.specs.ItemValue.{Span, ItemValue, call, bare}
use Rattle.m4quote.specs.Spelling.{IsSpelling}
use Rattle.m4quote.specs.Used.{IsBareValue}
use Rattle.shell_bare.specs.declared.assignments.Assignment.{Assignment}
use Rattle.shell_bare.specs.Statements.{IsBareText}
use Rattle.ac_statement.specs.declared.placement.LineStart.{LineStart}
use Rattle.ac_args.specs.Arguments.{cache_name, is_given}
use Rattle.ac_args.specs.Shell.{here_text}
use Rattle.ac_statement.specs.Idle.{is_idle}
use Rattle.ac_statement.specs.Inside.{inside}
use Rattle.ac_statement.specs.Texts.{arg_at}
use Rattle.ac_statement.specs.Stand.{line_start_of, no_line_start, is_statement}
use Rattle.ac_macros.specs.declared.macros.ChoiceMacro.{ChoiceMacro}
use Rattle.ac_macros.specs.declared.macros.Macro.{Macro}
use Rattle.ac_macros.specs.declared.macros.Macro.TheVariants.{Plain, Choice as A_choice, Question as A_question, Check as A_check}
use Rattle.ac_macros.specs.declared.macros.QuestionMacro.{QuestionMacro}
use Rattle.ac_macros.specs.declared.macros.Named.TheVariants.{Statement}
use Rattle.ac_macros.specs.declared.macros.PlainMacro.{PlainMacro}
use Rattle.ac_macros.specs.declared.table.Row.{Row}
use Rattle.ac_tree.specs.declared.declarations.Declarations as declarations
use Rattle.ac_tree.specs.declared.declarations.Stage.{Stage}
use Rattle.ac_tree.specs.declared.declarations.Stage.TheVariants.{Before, Open, Ended}
use Rattle.shellword.specs.declared.part.Part.{Part}
use Rattle.ac_tree.specs.declared.statement.Declares.{Declares}
use Rattle.ac_tree.specs.declared.statement.Declares.TheVariants.{Nothing}
use Rattle.ac_tree.specs.declared.statement.Effect.{Effect}
use Rattle.ac_tree.specs.declared.statement.Question.{Question}
use Rattle.ac_macros.specs.Checks.{completed_of}
use Rattle.ac_macros.specs.Rows.{plain_of, question_of}
use Rattle.ac_macros.specs.Placement.{placed}
use Rattle.ac_macros.specs.ListKind.{ListKind, Commands, is_top, of_case, may_hold}
use Rattle.ac_macros.specs.Table.{row_named, takes}
use Rattle.ac_tree.specs.declared.tree.Subject.{Subject}
use Rattle.ac_tree.specs.declared.tree.When.{When}
use Rattle.ac_tree.specs.declared.tree.When.TheVariants.{Yes, No, Always}
use Rattle.ac_tree.specs.Lists.{after, after_all, after_cases}
use Rattle.ac_tree.specs.Script.{Script, Done, Then, Choice, Check, Cases, No_case, Case, joined, followed}
use Rattle.acparse.specs.Asked.{asked_by}
use Rattle.acparse.specs.Bare.{assigned, may_assign}
use Rattle.acparse.specs.Profile.{when_of, subject_of, case_args, case_if, action_args}

-- The statements of a statement argument, given what has been declared before it. (own)
abbrev pub Within : Type 1
Within = declarations.Declarations → Span → Script → Type 0

-- A call of the macro is a statement between what precedes it and the items after it, and the list may hold it. (own)
pub record MayStand (list_kind : ListKind) (stage : Stage) (line_start : LineStart) (name : List ℕ) (args : List Span) (at : ℕ) (following : List ItemValue) (m : Macro) : Type 0 where
  pub row : Row
  pub known : row_named name ≡ Some row
  pub named : row.named ≡ Statement m
  pub taken : takes row args ≡ true
  pub in_place : placed (is_top list_kind) stage row.top m at ≡ Ok tt
  pub parted : is_statement line_start name args at following ≡ true
  pub held : may_hold list_kind m ≡ Ok tt

-- Bare text has these statements: the assignments in its value, which the list may hold; before AC_INIT and after
-- AC_OUTPUT, none. (own)
pub data IsBare (list_kind : ListKind) : Stage → List ℕ → Script → Type 0 where
  before : {text : List ℕ} → is_idle text ≡ true → IsBare list_kind Before text Done
  ended : {text : List ℕ} → is_idle text ≡ true → IsBare list_kind Ended text Done
  assignments : {text value : List ℕ} {list : List Assignment} → IsBareValue text value → IsBareText value list → may_assign list_kind list ≡ Ok tt
      → IsBare list_kind Open text (assigned list)

-- Arguments make these cases: conditions and statements in pairs, and at the end a default alone. (Autoconf's manual,
-- "Common Shell Constructs")
pub data AreCases (Inside : Within) (m : ChoiceMacro) : declarations.Declarations → List Span → Cases → Type 0 where
  no_more : {c : declarations.Declarations} → AreCases Inside m c [] No_case
  default : {c : declarations.Declarations} {arg : Span} {body : Script} → Inside c arg body → AreCases Inside m c (arg ∷ []) (case_if Always (is_given arg) body)
  pair : {c : declarations.Declarations} {condition arg : Span} {more : List Span} {when : When} {body : Script} {others : Cases}
      → when_of m condition ≡ Ok when → Inside c arg body → AreCases Inside m (after_all c body) more others
      → AreCases Inside m c (condition ∷ arg ∷ more) (Case when body others)

-- The first of these arguments, if there is one, makes this case. (own)
pub data IsAction (Inside : Within) (when : When) : declarations.Declarations → List Span → Cases → Type 0 where
  absent : {c : declarations.Declarations} → IsAction Inside when c [] No_case
  there : {c : declarations.Declarations} {arg : Span} {more : List Span} {body : Script} → Inside c arg body → IsAction Inside when c (arg ∷ more) (case_if when (is_given arg) body)

-- An item has these statements. (own)
pub data IsItem (list_kind : ListKind) (Inside : ListKind → Within) (c : declarations.Declarations) (line_start : LineStart) : ItemValue → List ItemValue → Script → Type 0 where
  bare_text : {text : List ℕ} {at : ℕ} {following : List ItemValue} {s : Script} → IsBare list_kind c.stage text s → IsItem list_kind Inside c line_start (bare text at) following s
  plain_call : {name : List ℕ} {args : List Span} {at : ℕ} {following : List ItemValue} {m : PlainMacro} {declares : Declares} {effect : Effect}
      → MayStand list_kind c.stage line_start name args at following (Plain m) → plain_of c m at args ≡ Ok (declares, effect)
      → IsItem list_kind Inside c line_start (call name args at) following (Then declares effect Done)
  choice : {name : List ℕ} {args : List Span} {at : ℕ} {following : List ItemValue} {m : ChoiceMacro} {subject : Subject} {cases : Cases}
      → MayStand list_kind c.stage line_start name args at following (A_choice m) → subject_of m args ≡ Ok subject → AreCases (Inside (of_case list_kind)) m c (case_args m args) cases
      → IsItem list_kind Inside c line_start (call name args at) following (Choice Nothing subject cases Done)
  question : {name : List ℕ} {args : List Span} {at : ℕ} {following : List ItemValue} {m : QuestionMacro} {declares : Declares} {q whole : Question} {first other : Cases}
      → MayStand list_kind c.stage line_start name args at following (A_question m) → question_of c m args ≡ Ok (declares, q)
      → IsAction (Inside (of_case list_kind)) Yes (after c declares) (action_args m args) first
      → IsAction (Inside (of_case list_kind)) No (after_cases (after c declares) first) (drop 1 (action_args m args)) other
      → completed_of q args ≡ Ok whole
      → IsItem list_kind Inside c line_start (call name args at) following (asked_by declares whole (followed first other))
  check : {name : List ℕ} {args : List Span} {at : ℕ} {following : List ItemValue} {message : List Part} {variable : List ℕ} {commands : Script}
      → MayStand list_kind c.stage line_start name args at following A_check → here_text (arg_at args 0) ≡ Ok message → cache_name (arg_at args 1) ≡ Ok variable
      → Inside (Commands variable (arg_at args 2).at) c (arg_at args 2) commands
      → IsItem list_kind Inside c line_start (call name args at) following (Check message variable commands Done)

-- Items have these statements, one after another. (own)
pub data AreStatements (list_kind : ListKind) (Inside : ListKind → Within) : declarations.Declarations → LineStart → List ItemValue → Script → Type 0 where
  none : {c : declarations.Declarations} {line_start : LineStart} → AreStatements list_kind Inside c line_start [] Done
  one : {c : declarations.Declarations} {line_start : LineStart} {item : ItemValue} {items : List ItemValue} {first rest : Script}
      → IsItem list_kind Inside c line_start item items first → AreStatements list_kind Inside (after_all c first) (line_start_of item) items rest
      → AreStatements list_kind Inside c line_start (item ∷ items) (joined first rest)

-- A statement argument has these statements, with lists that nest at most n deep, counting its own: the text that it
-- denotes spells items, and these are their statements. (own)
abbrev pub IsBody : ℕ → ListKind → Within
IsBody zero list_kind c arg s = ⊥
IsBody (suc room) list_kind c arg s =
    (a : Span) × (inside arg ≡ Ok a) × ((items : List ItemValue) × IsSpelling a.at a.text items × AreStatements list_kind (IsBody room) c no_line_start items s)
