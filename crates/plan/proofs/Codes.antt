-- Code that is written from the last step to the first.
use Rattle.std.proofs.Common.{◌≡◌, ℕ, Bool, false, ◌==◌, ◌+◌, ◌-◌, ◌<◌, ◌≤◌, arith, List, [], ◌∷◌, Option, ◌++◌, Vec, Global, length, drop, get_or, sym, ap, ◌∙◌, append_assoc}
use Rattle.std.proofs.lemmas.List.{drop_more, append-nil}
use Rattle.std.proofs.lemmas.Bool.Decides.{nat_tests}
use Rattle.shellword.specs.declared.part.Part.{Part}
use Rattle.ac_tree.specs.declared.listed.Sought.{Sought}
use Rattle.ac_tree.specs.declared.statement.Question.TheVariants.{ChecksEach}
use Rattle.ac_tree.specs.declared.tree.Case as case
use Rattle.ac_tree.specs.declared.tree.Stmt.{Stmt, Choose, CacheCheck}
use Rattle.ac_tree.specs.declared.tree.Subject as what
use Rattle.ac_tree.specs.declared.tree.Subject.TheVariants.{Asked}
use Rattle.ac_tree.specs.declared.statement.Declares.{Declares}
use Rattle.ac_tree.specs.declared.tree.Stmt.TheVariants.{Do, Choose', CacheCheck'}
use Rattle.ac_tree.specs.Script.{Script, Done, stmt_then, row_script, row_cases, script_of, cases_of}
use Rattle.ac_tree.proofs.ScriptLemmas.{choice_is, check_is}
use Rattle.meaning.specs.Meaning.{rounds_asked, rounds_of}
use Rattle.plan.specs.Walk.{Instruction, Does, Looks, Begins}
use Rattle.plan.specs.Code.{case_code, check_code, code_after, code_each, code_of, code_of_cases, code_of_programs}

code_more : (s : Stmt) (rest : Script) → code_of (stmt_then s rest) ≡ code_of (stmt_then s Done) ++ code_of rest
code_more (Do declares effect) rest = ap (λ l. Does effect ∷ (l ++ code_of rest)) (sym (append-nil (code_after effect)))
code_more (Choose' declares subject m cases) rest = ap (λ l. l ++ code_of rest) (sym (append-nil (code_each (rounds_of subject) (code_of_cases (row_cases cases)))))
code_more (CacheCheck' message name m commands) rest = ap (λ l. l ++ code_of rest) (sym (append-nil (check_code message name (code_of (row_script commands)))))

-- One more statement at the front.
pub code_at : (old new base : List Instruction) (list : List Stmt) (i j : ℕ) (s : Stmt) → 0 < i → i ≤ length list → j ≡ i - 1 → s ≡ get_or list j s
    → new ≡ code_of (stmt_then s Done) ++ old → old ≡ code_of (script_of (drop i list)) ++ base
    → new ≡ code_of (script_of (drop j list)) ++ base
code_at old new base list i j s some within next at is h =
    let lt : j < length list = omega arith in
    let up : i ≡ j + 1 = omega arith in
    let rest = script_of (drop (j + 1) list) in
    is ∙ ap (λ l. code_of (stmt_then s Done) ++ l) (h ∙ ap (λ k. code_of (script_of (drop k list)) ++ base) up)
    ∙ sym (append_assoc (code_of (stmt_then s Done)) (code_of rest) base)
    ∙ ap (λ l. l ++ base) (sym (code_more s rest) ∙ ap (λ x. code_of (stmt_then x rest)) at ∙ ap (λ l. code_of (script_of l)) (sym (drop_more list j s lt)))

-- One more case at the front.
pub code_at_case : (old new base : List Instruction) (list : List case.Case) (i : ℕ) (d : case.Case) (after : ℕ) → i < length list
    → after ≡ length (code_of_cases (cases_of (drop (i + 1) list)))
    → new ≡ case_code (get_or list i d).when (code_of (script_of (get_or list i d).body.items)) after ++ old
    → old ≡ code_of_cases (cases_of (drop (i + 1) list)) ++ base
    → new ≡ code_of_cases (cases_of (drop i list)) ++ base
code_at_case old new base list i d after lt far is h =
    let c = get_or list i d in
    let rest = code_of_cases (cases_of (drop (i + 1) list)) in
    let body = code_of (script_of c.body.items) in
    is ∙ ap (λ n. case_code c.when body n ++ old) far ∙ ap (λ l. case_code c.when body (length rest) ++ l) h
    ∙ sym (append_assoc (case_code c.when body (length rest)) rest base)
    ∙ ap (λ l. code_of_cases (cases_of l) ++ base) (sym (drop_more list i d lt))

-- A choice.
pub code_choice : (s : Stmt) (declares : Declares) (subject : what.Subject) (cases : Vec case.Case Global) → s ≡ Choose declares subject cases
    → code_of (stmt_then s Done) ≡ code_each (rounds_of subject) (code_of_cases (cases_of cases.items))
code_choice s declares subject cases is =
    ap (λ x. code_of (stmt_then x Done)) is ∙ ap code_of (choice_is declares subject cases Done)
    ∙ append-nil (code_each (rounds_of subject) (code_of_cases (cases_of cases.items)))

-- A check.
pub code_check : (s : Stmt) (message : List Part) (name : List ℕ) (commands : Vec Stmt Global) → s ≡ CacheCheck message name commands
    → code_of (stmt_then s Done) ≡ check_code message name (code_of (script_of commands.items))
code_check s message name commands is =
    ap (λ x. code_of (stmt_then x Done)) is ∙ ap code_of (check_is message name commands Done)
    ∙ append-nil (check_code message name (code_of (script_of commands.items)))

-- One more round at the front.
pub code_at_round : (old new base cases : List Instruction) (sought : Sought) (includes : Option (List Part)) (entries : List (List ℕ)) (i j : ℕ) (e : List ℕ) → 0 < i → i ≤ length entries → j ≡ i - 1 → e ≡ get_or entries j e
    → new ≡ Begins (Asked (ChecksEach sought (e ∷ []) includes)) ∷ (cases ++ old)
    → old ≡ code_each (rounds_asked (ChecksEach sought (drop i entries) includes)) cases ++ base
    → new ≡ code_each (rounds_asked (ChecksEach sought (drop j entries) includes)) cases ++ base
code_at_round old new base cases sought includes entries i j e some within next at is h =
    let lt : j < length entries = omega arith in
    let up : i ≡ j + 1 = omega arith in
    let each = λ (list : List (List ℕ)). code_each (rounds_asked (ChecksEach sought list includes)) cases in
    let rest = drop (j + 1) entries in
    is
    ∙ ap (λ l. Begins (Asked (ChecksEach sought (e ∷ []) includes)) ∷ (cases ++ l)) (h ∙ ap (λ k. each (drop k entries) ++ base) up)
    ∙ ap (λ l. Begins (Asked (ChecksEach sought (e ∷ []) includes)) ∷ l) (sym (append_assoc cases (each rest) base))
    ∙ ap (λ x. each (x ∷ rest) ++ base) at
    ∙ ap (λ l. each l ++ base) (sym (drop_more entries j e lt))

-- One more program at the front.
pub code_at_program : (old new base : List Instruction) (variable : List ℕ) (programs : List (List ℕ)) (i j : ℕ) (p : List ℕ) (first : Bool) → 0 < i → i ≤ length programs → j ≡ i - 1 → p ≡ get_or programs j p
    → first ≡ (j == 0) → new ≡ Looks variable p first ∷ old → old ≡ code_of_programs variable (drop i programs) (i == 0) ++ base
    → new ≡ code_of_programs variable (drop j programs) (j == 0) ++ base
code_at_program old new base variable programs i j p first some within next at is_first is h =
    let lt : j < length programs = omega arith in
    let up : i ≡ j + 1 = omega arith in
    let later : (i == 0) ≡ false = grind (arith, nat_tests) in
    is ∙ ap (λ b. Looks variable p b ∷ old) is_first
    ∙ ap (λ l. Looks variable p (j == 0) ∷ l) (h ∙ ap (λ b. code_of_programs variable (drop i programs) b ++ base) later ∙ ap (λ k. code_of_programs variable (drop k programs) false ++ base) up)
    ∙ ap (λ x. Looks variable x (j == 0) ∷ (code_of_programs variable (drop (j + 1) programs) false ++ base)) at
    ∙ ap (λ l. code_of_programs variable l (j == 0) ++ base) (sym (drop_more programs j p lt))
