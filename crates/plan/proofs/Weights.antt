-- The weight of a list, statement after statement and case after case, and how long its code is.
use Rattle.std.proofs.Common.{◌≡◌, ℕ, zero, suc, ◌+◌, ◌-◌, ◌*◌, ◌<◌, ◌≤◌, Option, Some, None, IfSome, IfNone, SomeIff, is_some, Bool, true, false, refl, List, [], ◌∷◌, Vec, Global, length, drop, get_or, ap, ◌∙◌, arith, length-append}
use Rattle.std.proofs.Math.Nat.{mul-zero, mul-suc}
use Rattle.std.proofs.lemmas.List.{drop_more}
use Rattle.std.proofs.lemmas.Bool.{true≢false}
use Rattle.shellword.specs.declared.part.Part.{Part}
use Rattle.ac_tree.specs.declared.statement.Declares.{Declares}
use Rattle.ac_tree.specs.declared.statement.Effect.{Effect}
use Rattle.ac_tree.specs.declared.statement.Effect.TheVariants.{Searches}
use Rattle.ac_tree.specs.declared.tree.Case as case
use Rattle.ac_tree.specs.declared.tree.Stmt.{Stmt, Choose, CacheCheck}
use Rattle.ac_tree.specs.declared.tree.Subject as what
use Rattle.ac_tree.specs.declared.tree.Stmt.TheVariants as stmt
use Rattle.ac_tree.specs.Script.{Script, Done, Then, Choice, Check, Cases, No_case, Case, stmt_then, script_of, cases_of}
use Rattle.ac_tree.proofs.ScriptLemmas.{choice_is, check_is}
use Rattle.meaning.specs.Meaning.{rounds_of}
use Rattle.plan.specs.Walk.{Instruction, Skips, Closes}
use Rattle.plan.specs.Weight.{entries_of, entries_asked, times, weight, weight_of_cases}
use Rattle.plan.specs.Code.{case_code, check_code, code_after, code_each, code_of, code_of_cases, code_of_programs, default_code}
use Rattle.plan.proofs.Insides.{rounds_bound}

weight_more : (s : Stmt) (rest : Script) → weight (stmt_then s rest) ≡ weight (stmt_then s Done) + weight rest
weight_more (stmt.Do declares effect) rest = omega arith
weight_more (stmt.Choose' declares subject m cases) rest = omega arith
weight_more (stmt.CacheCheck' message name m commands) rest = omega arith

-- One statement of a list, and those after it.
pub weight_at : (list : List Stmt) (i : ℕ) (d : Stmt) → i < length list
    → weight (script_of (drop i list)) ≡ weight (stmt_then (get_or list i d) Done) + weight (script_of (drop (i + 1) list))
weight_at list i d lt = ap (λ l. weight (script_of l)) (drop_more list i d lt) ∙ weight_more (get_or list i d) (script_of (drop (i + 1) list))

-- One case of a choice, and those after it.
pub weight_at_case : (list : List case.Case) (i : ℕ) (d : case.Case) → i < length list
    → weight_of_cases (cases_of (drop i list)) ≡ weight_of_cases (cases_of (get_or list i d ∷ [])) + weight_of_cases (cases_of (drop (i + 1) list))
weight_at_case list i d lt = ap (λ l. weight_of_cases (cases_of l)) (drop_more list i d lt) ∙ omega arith

-- A choice.
pub weight_choice : (s : Stmt) (declares : Declares) (subject : what.Subject) (cases : Vec case.Case Global) → s ≡ Choose declares subject cases
    → weight (stmt_then s Done) ≡ 1 + (entries_asked subject + times (length (rounds_of subject)) (weight_of_cases (cases_of cases.items)))
weight_choice s declares subject cases is = ap (λ x. weight (stmt_then x Done)) is ∙ ap weight (choice_is declares subject cases Done) ∙ omega arith

pub weighs_something : (s : Stmt) → 1 ≤ weight (stmt_then s Done)
weighs_something (stmt.Do declares effect) = omega arith
weighs_something (stmt.Choose' declares subject m cases) = omega arith
weighs_something (stmt.CacheCheck' message name m commands) = omega arith

-- A check.
pub weight_check : (s : Stmt) (message : List Part) (name : List ℕ) (commands : Vec Stmt Global) → s ≡ CacheCheck message name commands
    → weight (stmt_then s Done) ≡ 1 + weight (script_of commands.items)
weight_check s message name commands is = ap (λ x. weight (stmt_then x Done)) is ∙ ap weight (check_is message name commands Done) ∙ omega arith

-- One more statement.
pub weigh_on : (list : List Stmt) (i : ℕ) (s : Stmt) (left less room : ℕ) → i < length list → s ≡ get_or list i s
    → less + weight (stmt_then s Done) ≡ left
    → left + weight (script_of list) ≡ room + weight (script_of (drop i list))
    → less + weight (script_of list) ≡ room + weight (script_of (drop (i + 1) list))
weigh_on list i s left less room lt is e h =
    omega (arith, weight_at list i s lt, ap (λ x. weight (stmt_then x Done)) is)

pub weigh_over : (list : List Stmt) (i : ℕ) (s : Stmt) (left room : ℕ) → i < length list → s ≡ get_or list i s
    → left < weight (stmt_then s Done)
    → left + weight (script_of list) ≡ room + weight (script_of (drop i list))
    → room < weight (script_of list)
weigh_over list i s left room lt is e h =
    omega (arith, weight_at list i s lt, ap (λ x. weight (stmt_then x Done)) is)

pub choose_some : (r : Option ℕ) (s : Stmt) (declares : Declares) (subject : what.Subject) (cases : Vec case.Case Global) (seen : List case.Case) (left room : ℕ) → s ≡ Choose declares subject cases
    → seen ≡ cases.items → left + 1 ≡ room → IfSome r (λ l. l + (entries_asked subject + times (length (rounds_of subject)) (weight_of_cases (cases_of seen))) ≡ left)
    → IfSome r (λ l. l + weight (stmt_then s Done) ≡ room)
choose_some None s declares subject cases seen left room is same one h = h
choose_some (Some l) s declares subject cases seen left room is same one h =
    omega (arith, weight_choice s declares subject cases is, ap (λ x. times (length (rounds_of subject)) (weight_of_cases (cases_of x))) same)

pub choose_none : (r : Option ℕ) (s : Stmt) (declares : Declares) (subject : what.Subject) (cases : Vec case.Case Global) (seen : List case.Case) (left room : ℕ) → s ≡ Choose declares subject cases
    → seen ≡ cases.items → left + 1 ≡ room → IfNone r (left < entries_asked subject + times (length (rounds_of subject)) (weight_of_cases (cases_of seen)))
    → IfNone r (room < weight (stmt_then s Done))
choose_none None s declares subject cases seen left room is same one h =
    omega (arith, weight_choice s declares subject cases is, ap (λ x. times (length (rounds_of subject)) (weight_of_cases (cases_of x))) same)
choose_none (Some l) s declares subject cases seen left room is same one h = h

pub check_some : (r : Option ℕ) (s : Stmt) (message : List Part) (name : List ℕ) (commands : Vec Stmt Global) (seen : List Stmt) (left room : ℕ) → s ≡ CacheCheck message name commands
    → seen ≡ commands.items → left + 1 ≡ room → IfSome r (λ l. l + weight (script_of seen) ≡ left)
    → IfSome r (λ l. l + weight (stmt_then s Done) ≡ room)
check_some None s message name commands seen left room is same one h = h
check_some (Some l) s message name commands seen left room is same one h =
    omega (arith, weight_check s message name commands is, ap (λ x. weight (script_of x)) same)

pub check_none : (r : Option ℕ) (s : Stmt) (message : List Part) (name : List ℕ) (commands : Vec Stmt Global) (seen : List Stmt) (left room : ℕ) → s ≡ CacheCheck message name commands
    → seen ≡ commands.items → left + 1 ≡ room → IfNone r (left < weight (script_of seen))
    → IfNone r (room < weight (stmt_then s Done))
check_none None s message name commands seen left room is same one h =
    omega (arith, weight_check s message name commands is, ap (λ x. weight (script_of x)) same)
check_none (Some l) s message name commands seen left room is same one h = h

programs_bound : (variable : List ℕ) (programs : List (List ℕ)) (always : Bool) → length (code_of_programs variable programs always) ≡ length programs
programs_bound variable [] always = refl
programs_bound variable (p ∷ programs) always = omega (arith, programs_bound variable programs false)

default_bound : (variable : List ℕ) (value : Option (List Part)) → length (default_code variable value) ≤ 1
default_bound variable None = omega arith
default_bound variable (Some value) = omega arith

after_bound : (s : Effect) → length (code_after s) ≤ entries_of s + 1
after_bound (Searches variable programs otherwise) =
    omega (arith, length-append (code_of_programs variable programs true) (default_code variable otherwise), programs_bound variable programs true, default_bound variable otherwise)
after_bound other = omega arith

each_bound : (rounds : List what.Subject) (cases : List Instruction) (w : ℕ) → length cases ≤ 2 * w
    → length (code_each rounds cases) ≤ length rounds + 2 * times (length rounds) w
each_bound [] cases w h = omega arith
each_bound (round ∷ rounds) cases w h = omega (arith, length-append cases (code_each rounds cases), h, each_bound rounds cases w h)

mutual
  -- Code has two steps at most for each unit of weight.
  pub code_bound : (script : Script) → length (code_of script) ≤ 2 * weight script
  code_bound Done = omega arith
  code_bound (Then declares s rest) = omega (arith, after_bound s, length-append (code_after s) (code_of rest), code_bound rest)
  code_bound (Choice declares subject cases rest) =
      let rounds = rounds_of subject in let c = code_of_cases cases in
      omega (arith, length-append (code_each rounds c) (code_of rest), each_bound rounds c (weight_of_cases cases) (cases_bound cases), rounds_bound subject, code_bound rest)
  code_bound (Check message name commands rest) =
      let b = code_of commands in
      omega (arith, length-append (check_code message name b) (code_of rest), length-append b (Closes name ∷ []), code_bound commands, code_bound rest)

  cases_bound : (cases : Cases) → length (code_of_cases cases) ≤ 2 * weight_of_cases cases
  cases_bound No_case = omega arith
  cases_bound (Case when body more) =
      let b = code_of body in let m = code_of_cases more in
      omega (arith, length-append (case_code when b (length m)) m, length-append b (Skips (length m) ∷ []), code_bound body, cases_bound more)

-- So many times is a product.
pub times_is : (w n : ℕ) → w * n ≡ times n w
times_is w zero = mul-zero w
times_is w (suc n) = mul-suc w n ∙ omega (arith, times_is w n)

-- At least once.
times_some : (w n : ℕ) → 0 < n → w ≤ times n w
times_some w zero h = omega arith
times_some w (suc n) h = omega arith

-- There is no room for the cases, and so none for all rounds.
pub rounds_over : (w n m entries left room : ℕ) → 0 < n → n ≡ m → left + entries ≡ room → left < w → room < entries + times m w
rounds_over w n m entries left room some same is over = omega (arith, times_some w m (omega (arith, some, same)), is, over)

-- What is left after so many times the weight.
pub spent_some : (r : Option ℕ) (all total room : ℕ) → all ≡ total → SomeIff r (all ≤ room) (room - all) → IfSome r (λ rest. rest + total ≡ room)
spent_some None all total room is h = tt
spent_some (Some rest) all total room is h = omega (arith, is, h)

pub spent_none : (r : Option ℕ) (all total room : ℕ) → all ≡ total → SomeIff r (all ≤ room) (room - all) → IfNone r (room < total)
spent_none None all total room is h = omega (arith, is, h)
spent_none (Some rest) all total room is h = tt

-- If there is room for all, the weight is no more than the room.
pub within : (r : Option ℕ) (w room : ℕ) → true ≡ is_some r → IfSome r (λ left. left + w ≡ room) → w ≤ room
within None w room e h = absurd (true≢false e)
within (Some left) w room e h = omega (arith, h)
