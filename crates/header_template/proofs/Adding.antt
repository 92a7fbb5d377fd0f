-- What statements mention, one after the other.
use Rattle.std.proofs.Common.{◌≡◌, ℕ, ◌+◌, ◌<◌, List, [], ◌∷◌, ◌++◌, Vec, Global, length, drop, get_or, refl, ap, ◌∙◌, sym, subst, append-nil}
use Rattle.std.proofs.lemmas.List.{drop_more, append_assoc}
use Rattle.ac_tree.specs.declared.statement.Declares.{Declares}
use Rattle.ac_tree.specs.declared.tree.Case as case
use Rattle.ac_tree.specs.declared.tree.Stmt.{Stmt, Choose, CacheCheck}
use Rattle.ac_tree.specs.declared.tree.Stmt.TheVariants as stmt
use Rattle.ac_tree.specs.declared.tree.Subject as what
use Rattle.ac_tree.specs.Script.{Script, Done, stmt_then, script_of, cases_of}
use Rattle.ac_tree.proofs.ScriptLemmas.{choice_is, check_is}
use Rattle.header_template.specs.Mentions.{mentioned_about, mentions_in, mentions_in_cases}

abbrev pub Entries : Type 0
Entries = List (List ℕ × List ℕ)

-- One list after the other is what both together are.
pub then_all : (old mid new a b : Entries) → mid ≡ old ++ a → new ≡ mid ++ b → new ≡ old ++ (a ++ b)
then_all old mid new a b first second = second ∙ ap (λ l. l ++ b) first ∙ append_assoc old a b

mentions_more : (notes : Entries) (s : Stmt) (rest : Script) → mentions_in notes (stmt_then s rest) ≡ mentions_in notes (stmt_then s Done) ++ mentions_in notes rest
mentions_more notes (stmt.Do declares effect) rest = ap (λ l. l ++ mentions_in notes rest) (sym (append-nil _))
mentions_more notes (stmt.Choose' declares subject m cases) rest = ap (λ l. l ++ mentions_in notes rest) (sym (append-nil _))
mentions_more notes (stmt.CacheCheck' message name m commands) rest = ap (λ l. l ++ mentions_in notes rest) (sym (append-nil _))

-- What is still to be added after one more list.
on_more : (old now all one more : Entries) → now ≡ old ++ one → old ++ (one ++ more) ≡ all → now ++ more ≡ all
on_more old now all one more added h = ap (λ l. l ++ more) added ∙ append_assoc old one more ∙ h

-- One more statement.
pub on_statement : (notes : Entries) (list : List Stmt) (i : ℕ) (s : Stmt) (old now all : Entries) → i < length list → s ≡ get_or list i s
    → now ≡ old ++ mentions_in notes (stmt_then s Done)
    → old ++ mentions_in notes (script_of (drop i list)) ≡ all
    → now ++ mentions_in notes (script_of (drop (i + 1) list)) ≡ all
on_statement notes list i s old now all lt is added h =
    let rest = drop (i + 1) list in
    let at : mentions_in notes (script_of (drop i list)) ≡ mentions_in notes (stmt_then s Done) ++ mentions_in notes (script_of rest) =
    ap (λ l. mentions_in notes (script_of l)) (drop_more list i s lt) ∙ ap (λ x. mentions_in notes (stmt_then x (script_of rest))) (sym is) ∙ mentions_more notes s (script_of rest) in
    on_more old now all (mentions_in notes (stmt_then s Done)) (mentions_in notes (script_of rest)) added (ap (λ l. old ++ l) (sym at) ∙ h)

-- The statements of one more case.
pub on_case : (notes : Entries) (list : List case.Case) (i : ℕ) (c : case.Case) (old now all : Entries) → i < length list → c ≡ get_or list i c
    → now ≡ old ++ mentions_in notes (script_of c.body.items)
    → old ++ mentions_in_cases notes (cases_of (drop i list)) ≡ all
    → now ++ mentions_in_cases notes (cases_of (drop (i + 1) list)) ≡ all
on_case notes list i c old now all lt is added h =
    let rest = drop (i + 1) list in
    let at : mentions_in_cases notes (cases_of (drop i list)) ≡ mentions_in notes (script_of c.body.items) ++ mentions_in_cases notes (cases_of rest) =
    ap (λ l. mentions_in_cases notes (cases_of l)) (drop_more list i c lt) ∙ ap (λ x. mentions_in_cases notes (cases_of (x ∷ rest))) (sym is) in
    on_more old now all (mentions_in notes (script_of c.body.items)) (mentions_in_cases notes (cases_of rest)) added (ap (λ l. old ++ l) (sym at) ∙ h)

-- A choice.
choice_mentions : (notes : Entries) (s : Stmt) (declares : Declares) (subject : what.Subject) (cases : Vec case.Case Global) → s ≡ Choose declares subject cases
    → mentions_in notes (stmt_then s Done) ≡ mentioned_about subject ++ mentions_in_cases notes (cases_of cases.items)
choice_mentions notes s declares subject cases is =
    ap (λ x. mentions_in notes (stmt_then x Done)) is ∙ ap (mentions_in notes) (choice_is declares subject cases Done) ∙ append-nil _

-- A check.
check_mentions : (notes : Entries) (s : Stmt) (message : _) (name : List ℕ) (commands : Vec Stmt Global) → s ≡ CacheCheck message name commands
    → mentions_in notes (stmt_then s Done) ≡ mentions_in notes (script_of commands.items)
check_mentions notes s message name commands is =
    ap (λ x. mentions_in notes (stmt_then x Done)) is ∙ ap (mentions_in notes) (check_is message name commands Done) ∙ append-nil _

-- What holds of what a choice mentions, by its subject and its cases.
pub of_choice : (P : Entries → Type 0) (notes : Entries) (s : Stmt) (declares : Declares) (subject : what.Subject) (cases : Vec case.Case Global) (seen : List case.Case)
    → s ≡ Choose declares subject cases → seen ≡ cases.items → P (mentioned_about subject ++ mentions_in_cases notes (cases_of seen)) → P (mentions_in notes (stmt_then s Done))
of_choice P notes s declares subject cases seen is same h =
    subst P (sym (choice_mentions notes s declares subject cases is ∙ ap (λ l. mentioned_about subject ++ mentions_in_cases notes (cases_of l)) (sym same))) h

-- What holds of what a check mentions, by its commands.
pub of_check : (P : Entries → Type 0) (notes : Entries) (s : Stmt) (message : _) (name : List ℕ) (commands : Vec Stmt Global) (seen : List Stmt)
    → s ≡ CacheCheck message name commands → seen ≡ commands.items → P (mentions_in notes (script_of seen)) → P (mentions_in notes (stmt_then s Done))
of_check P notes s message name commands seen is same h =
    subst P (sym (check_mentions notes s message name commands is ∙ ap (λ l. mentions_in notes (script_of l)) (sym same))) h
