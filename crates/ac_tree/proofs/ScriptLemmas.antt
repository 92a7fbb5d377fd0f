-- Lists of statements, and the cases inside a statement.
use Rattle.std.proofs.Common.{◌≡◌, ℕ, List, [], ◌∷◌, ◌++◌, Vec, Global, refl, ap, ◌∙◌, sym}
use mathlib.Core.Former.{Count}
use Rattle.shellword.specs.declared.part.Part.{Part}
use Rattle.ac_tree.specs.declared.declarations.Declarations as declarations
use Rattle.ac_tree.specs.Lists.{after}
use Rattle.ac_tree.specs.declared.tree.Case as case
use Rattle.ac_tree.specs.declared.statement.Declares as declares
use Rattle.ac_tree.specs.declared.tree.Stmt.{Stmt, Do, Choose, Choose', CacheCheck, CacheCheck', Row_of-Stmt, end_of-Stmt, more_of-Stmt, Row_of-Case, end_of-Case, more_of-Case, items-the_row-Stmt, items_shown-the_row-Stmt-0, items-the_row-Case, items_hidden-the_row-Case-1, items_hidden-the_row-Stmt-0}
use Rattle.ac_tree.specs.declared.tree.Subject.{Subject}
use Rattle.ac_tree.specs.Lists.{after_all, after_cases}
use Rattle.ac_tree.specs.Script.{Script, Done, Then, Choice, Check, Cases, No_case, Case, joined, followed, stmt_then, row_script, row_cases, script_of, cases_of}

pub joined_done : (s : Script) → joined s Done ≡ s
joined_done Done = refl
joined_done (Then d e rest) = ap (Then d e) (joined_done rest)
joined_done (Choice d subject cases rest) = ap (Choice d subject cases) (joined_done rest)
joined_done (Check message name commands rest) = ap (Check message name commands) (joined_done rest)

pub joined_assoc : (a b c : Script) → joined (joined a b) c ≡ joined a (joined b c)
joined_assoc Done b c = refl
joined_assoc (Then d e rest) b c = ap (Then d e) (joined_assoc rest b c)
joined_assoc (Choice d subject cases rest) b c = ap (Choice d subject cases) (joined_assoc rest b c)
joined_assoc (Check message name commands rest) b c = ap (Check message name commands) (joined_assoc rest b c)

row_is : (n : _) (row : Row_of-Stmt n) → row_script row ≡ script_of (items-the_row-Stmt n row)
row_is n end_of-Stmt = refl
row_is n (more_of-Stmt s rest) = ap (stmt_then s) (row_is _ rest)

cases_are : (n : _) (row : Row_of-Case n) → row_cases row ≡ cases_of (items-the_row-Case n row)
cases_are n end_of-Case = refl
cases_are n (more_of-Case when m body rest) =
    ap (λ s. Case when (row_script body) s) (cases_are _ rest)
    ∙ ap (λ s. Case when s (cases_of (items-the_row-Case _ rest))) (row_is _ body ∙ ap script_of (sym (items_shown-the_row-Stmt-0 m body)))

abbrev cases_row : Stmt → (n : Count) × Row_of-Case n
cases_row (Choose' d subject m cases) = (_, cases)
cases_row _ = (_, end_of-Case)

-- A choice of the code, and what follows.
pub choice_is : (d : declares.Declares) (subject : Subject) (cases : Vec case.Case Global) (rest : Script) → stmt_then (Choose d subject cases) rest ≡ Choice d subject (cases_of cases.items) rest
choice_is d subject cases rest =
    let a = cases_row (Choose d subject cases) in
    ap (λ s. Choice d subject s rest) (cases_are a.0 a.1 ∙ ap cases_of (items_hidden-the_row-Case-1 cases))

stmt_joined : (x : Stmt) (a b : Script) → stmt_then x (joined a b) ≡ joined (stmt_then x a) b
stmt_joined (Do d e) a b = refl
stmt_joined (Choose' d subject m cases) a b = refl
stmt_joined (CacheCheck' message name m commands) a b = refl

-- One statement is appended.
pub script_push : (xs : List Stmt) (s : Stmt) → script_of (xs ++ s ∷ []) ≡ joined (script_of xs) (script_of (s ∷ []))
script_push [] s = refl
script_push (x ∷ xs) s = ap (stmt_then x) (script_push xs s) ∙ stmt_joined x (script_of xs) (script_of (s ∷ []))

-- The declarations after two lists.
pub after_joined : (a b : Script) (c : declarations.Declarations) → after_all c (joined a b) ≡ after_all (after_all c a) b
after_joined Done b c = refl
after_joined (Then d e rest) b c = after_joined rest b (after c d)
after_joined (Choice d subject cases rest) b c = after_joined rest b (after_cases (after c d) cases)
after_joined (Check message name commands rest) b c = after_joined rest b (after_all c commands)

-- One case is appended.
pub cases_push : (xs : List case.Case) (c : case.Case) → cases_of (xs ++ c ∷ []) ≡ followed (cases_of xs) (cases_of (c ∷ []))
cases_push [] c = refl
cases_push (x ∷ xs) c = ap (Case x.when (script_of x.body.items)) (cases_push xs c)

pub followed_none : (a : Cases) → followed a No_case ≡ a
followed_none No_case = refl
followed_none (Case when body rest) = ap (Case when body) (followed_none rest)

pub followed_assoc : (a b c : Cases) → followed (followed a b) c ≡ followed a (followed b c)
followed_assoc No_case b c = refl
followed_assoc (Case when body rest) b c = ap (Case when body) (followed_assoc rest b c)

pub after_followed : (a b : Cases) (c : declarations.Declarations) → after_cases c (followed a b) ≡ after_cases (after_cases c a) b
after_followed No_case b c = refl
after_followed (Case when body rest) b c = after_followed rest b (after_all c body)

abbrev commands_row : Stmt → (n : Count) × Row_of-Stmt n
commands_row (CacheCheck' message name m commands) = (_, commands)
commands_row _ = (_, end_of-Stmt)

-- A check of the code, and what follows.
pub check_is : (message : List Part) (name : List ℕ) (commands : Vec Stmt Global) (rest : Script) → stmt_then (CacheCheck message name commands) rest ≡ Check message name (script_of commands.items) rest
check_is message name commands rest =
    let a = commands_row (CacheCheck message name commands) in
    ap (λ s. Check message name s rest) (row_is a.0 a.1 ∙ ap script_of (items_hidden-the_row-Stmt-0 commands))
