-- Names that are added one list after the other, statement after statement and case after case.
use Rattle.std.proofs.Common.{◌≡◌, ℕ, ◌+◌, ◌<◌, List, [], ◌∷◌, ◌++◌, Vec, Global, length, drop, flat_map, get_or, ap, ◌∙◌, sym, subst, append-nil}
use Rattle.std.proofs.lemmas.List.{drop_more}
use Rattle.std.proofs.lemmas.List.Sums.{fold-append}
use Rattle.ac_tree.specs.declared.statement.Declares.{Declares}
use Rattle.ac_tree.specs.declared.tree.Case as case
use Rattle.ac_tree.specs.declared.tree.Stmt.{Stmt, Choose, CacheCheck}
use Rattle.ac_tree.specs.declared.tree.Stmt.TheVariants as stmt
use Rattle.ac_tree.specs.declared.tree.Subject as what
use Rattle.ac_tree.specs.Script.{Script, Done, stmt_then, script_of, cases_of}
use Rattle.ac_tree.proofs.ScriptLemmas.{choice_is, check_is}
use Rattle.lint_templates.specs.Given.{defined_about, defined_in, defined_in_cases}
use Rattle.lint_templates.specs.Names.{with_all, with_formed}
use Rattle.lint_templates.specs.Unlisted.{one_unlisted}

pub all_append : (names a b : List (List ℕ)) → with_all names (a ++ b) ≡ with_all (with_all names a) b
all_append names a b = fold-append with_formed names a b

-- One list after the other is what both together are.
pub then_all : (old mid new a b : List (List ℕ)) → mid ≡ with_all old a → new ≡ with_all mid b → new ≡ with_all old (a ++ b)
then_all old mid new a b first second = second ∙ ap (λ names. with_all names b) first ∙ sym (all_append old a b)

-- A list, and the names that it has.
pub then_these : (old mid new a given b : List (List ℕ)) → mid ≡ with_all old a → new ≡ with_all mid given → given ≡ b → new ≡ with_all old (a ++ b)
then_these old mid new a given b first second is = then_all old mid new a b first (second ∙ ap (with_all mid) is)

pub first_these : (old new given a : List (List ℕ)) → old ≡ [] → new ≡ with_all old given → given ≡ a → new ≡ with_all [] a
first_these old new given a empty added is = added ∙ ap (with_all old) is ∙ ap (λ names. with_all names a) empty

defined_more : (s : Stmt) (rest : Script) → defined_in (stmt_then s rest) ≡ defined_in (stmt_then s Done) ++ defined_in rest
defined_more (stmt.Do declares effect) rest = ap (λ l. l ++ defined_in rest) (sym (append-nil _))
defined_more (stmt.Choose' declares subject m cases) rest = ap (λ l. l ++ defined_in rest) (sym (append-nil _))
defined_more (stmt.CacheCheck' message name m commands) rest = ap (λ l. l ++ defined_in rest) (sym (append-nil _))

-- What is still to be added after one more list of names.
on_more : (names now all one more : List (List ℕ)) → now ≡ with_all names one → with_all names (one ++ more) ≡ all → with_all now more ≡ all
on_more names now all one more added h = ap (λ n. with_all n more) added ∙ sym (all_append names one more) ∙ h

-- One more statement.
pub on_statement : (list : List Stmt) (i : ℕ) (s : Stmt) (names now all : List (List ℕ)) → i < length list → s ≡ get_or list i s
    → now ≡ with_all names (defined_in (stmt_then s Done))
    → with_all names (defined_in (script_of (drop i list))) ≡ all
    → with_all now (defined_in (script_of (drop (i + 1) list))) ≡ all
on_statement list i s names now all lt is added h =
    let rest = drop (i + 1) list in
    let at : defined_in (script_of (drop i list)) ≡ defined_in (stmt_then s Done) ++ defined_in (script_of rest) =
    ap (λ l. defined_in (script_of l)) (drop_more list i s lt) ∙ ap (λ x. defined_in (stmt_then x (script_of rest))) (sym is) ∙ defined_more s (script_of rest) in
    on_more names now all (defined_in (stmt_then s Done)) (defined_in (script_of rest)) added (ap (with_all names) (sym at) ∙ h)

-- The statements of one more case.
pub on_case : (list : List case.Case) (i : ℕ) (c : case.Case) (names now all : List (List ℕ)) → i < length list → c ≡ get_or list i c
    → now ≡ with_all names (defined_in (script_of c.body.items))
    → with_all names (defined_in_cases (cases_of (drop i list))) ≡ all
    → with_all now (defined_in_cases (cases_of (drop (i + 1) list))) ≡ all
on_case list i c names now all lt is added h =
    let rest = drop (i + 1) list in
    let at : defined_in_cases (cases_of (drop i list)) ≡ defined_in (script_of c.body.items) ++ defined_in_cases (cases_of rest) =
    ap (λ l. defined_in_cases (cases_of l)) (drop_more list i c lt) ∙ ap (λ x. defined_in_cases (cases_of (x ∷ rest))) (sym is) in
    on_more names now all (defined_in (script_of c.body.items)) (defined_in_cases (cases_of rest)) added (ap (with_all names) (sym at) ∙ h)

-- A choice.
pub choice_defines : (s : Stmt) (declares : Declares) (subject : what.Subject) (cases : Vec case.Case Global) → s ≡ Choose declares subject cases
    → defined_in (stmt_then s Done) ≡ defined_about subject ++ defined_in_cases (cases_of cases.items)
choice_defines s declares subject cases is =
    ap (λ x. defined_in (stmt_then x Done)) is ∙ ap defined_in (choice_is declares subject cases Done) ∙ append-nil _

-- A check.
pub check_defines : (s : Stmt) (message : _) (name : List ℕ) (commands : Vec Stmt Global) → s ≡ CacheCheck message name commands
    → defined_in (stmt_then s Done) ≡ defined_in (script_of commands.items)
check_defines s message name commands is =
    ap (λ x. defined_in (stmt_then x Done)) is ∙ ap defined_in (check_is message name commands Done) ∙ append-nil _

-- What holds of the names of a choice, by its subject and its cases.
pub of_choice : (P : List (List ℕ) → Type 0) (s : Stmt) (declares : Declares) (subject : what.Subject) (cases : Vec case.Case Global) (seen : List case.Case)
    → s ≡ Choose declares subject cases → seen ≡ cases.items → P (defined_about subject ++ defined_in_cases (cases_of seen)) → P (defined_in (stmt_then s Done))
of_choice P s declares subject cases seen is same h =
    subst P (sym (choice_defines s declares subject cases is ∙ ap (λ l. defined_about subject ++ defined_in_cases (cases_of l)) (sym same))) h

-- What holds of the names of a check, by its commands.
pub of_check : (P : List (List ℕ) → Type 0) (s : Stmt) (message : _) (name : List ℕ) (commands : Vec Stmt Global) (seen : List Stmt)
    → s ≡ CacheCheck message name commands → seen ≡ commands.items → P (defined_in (script_of seen)) → P (defined_in (stmt_then s Done))
of_check P s message name commands seen is same h =
    subst P (sym (check_defines s message name commands is ∙ ap (λ l. defined_in (script_of l)) (sym same))) h

-- One more definition, if it isn't listed.
pub on_unlisted : (listed defined : List (List ℕ)) (i : ℕ) (given name : List ℕ) (names now all : List (List ℕ)) → i < length defined → given ≡ name
    → name ≡ get_or defined i name → now ≡ with_all names (one_unlisted listed given)
    → with_all names (flat_map (one_unlisted listed) (drop i defined)) ≡ all
    → with_all now (flat_map (one_unlisted listed) (drop (i + 1) defined)) ≡ all
on_unlisted listed defined i given name names now all lt same is added h =
    let f : List ℕ → List (List ℕ) = one_unlisted listed in
    let rest = drop (i + 1) defined in
    let at : flat_map f (drop i defined) ≡ f given ++ flat_map f rest =
    ap (flat_map f) (drop_more defined i name lt) ∙ ap (λ n. f n ++ flat_map f rest) (sym (same ∙ is)) in
    on_more names now all (f given) (flat_map f rest) added (ap (with_all names) (sym at) ∙ h)
