-- The steps of a statement, of a check, and of a choice.
use Rattle.std.proofs.Common.{◌≡◌, ℕ, List, [], ◌∷◌, ◌++◌, Bool, true, false, ◌||◌, Option, Some, Result, Ok, Err, Vec, Global, refl, sym, ap, ◌∙◌}
use Rattle.std.specs.Prelude.{◌&&◌, IfOk, bytes_eq}
use Rattle.std.specs.declared.alloc.AllocError.{AllocError}
use Rattle.deftable.specs.NameList.{has_name}
use Rattle.shellword.specs.declared.part.Part.{Part}
use Rattle.ac_tree.specs.declared.tree.Case as case
use Rattle.ac_tree.specs.declared.tree.Stmt.{Stmt, Choose, CacheCheck}
use Rattle.ac_tree.specs.declared.tree.Subject.{Subject}
use Rattle.ac_tree.specs.declared.statement.Declares.{Declares}
use Rattle.ac_tree.specs.Decide.{reads_text, may_use, resumable, resumable_in}
use Rattle.ac_tree.specs.Resumable.{first_alone}
use Rattle.ac_tree.specs.Uses.{Uses}
use Rattle.ac_tree.specs.Script.{Script, Choice, Check, Cases, stmt_then, script_of, cases_of}
use Rattle.ac_tree.proofs.ScriptLemmas.{choice_is, check_is}
use Rattle.ac_resumable.specs.Tested.{HasSameNames}
use Rattle.ac_resumable.proofs.NameLists.{has_joined}
use Rattle.ac_resumable.proofs.Same.{script_same, cases_same}

-- What is found of a statement, whatever follows it.
abbrev pub Found : Option (List ℕ) → List (List ℕ) → List (List ℕ) → (Script → Script) → Bool → Type 0
Found own old new whole b = (rest : Script) → resumable own old (whole rest) ≡ b && resumable own new rest

pub choice_found : (own : Option (List ℕ)) (old new : List (List ℕ)) (r : Result Bool AllocError) (s : Stmt) (d : Declares) (subject : Subject) (cases : Vec case.Case Global) (seen : List case.Case)
    → s ≡ Choose d subject cases → seen ≡ cases.items → IfOk r (Found own old new (Choice d subject (cases_of seen))) → IfOk r (Found own old new (stmt_then s))
choice_found own old new (Ok b) s d subject cases seen is same h =
    λ rest. ap (resumable own old) (ap (λ x. stmt_then x rest) is ∙ choice_is d subject cases rest ∙ ap (λ l. Choice d subject (cases_of l) rest) (sym same)) ∙ h rest
choice_found own old new (Err e) s d subject cases seen is same h = h

pub check_found : (own : Option (List ℕ)) (old new : List (List ℕ)) (r : Result Bool AllocError) (s : Stmt) (message : List Part) (name : List ℕ) (commands : Vec Stmt Global) (called : List ℕ) (seen : List Stmt)
    → s ≡ CacheCheck message name commands → called ≡ name → seen ≡ commands.items → IfOk r (Found own old new (Check message called (script_of seen))) → IfOk r (Found own old new (stmt_then s))
check_found own old new (Ok b) s message name commands called seen is names same h =
    λ rest. ap (resumable own old) (ap (λ x. stmt_then x rest) is ∙ check_is message name commands rest ∙ ap (λ l. Check message name (script_of l) rest) (sym same) ∙ ap (λ n. Check message n (script_of seen) rest) (sym names)) ∙ h rest
check_found own old new (Err e) s message name commands called seen is names same h = h

-- ---- a choice

among_all : (names old : List (List ℕ)) (q : List ℕ) → has_name names q || has_name (first_alone names ++ old) q ≡ has_name names q || has_name old q
unfolding has_name
among_all [] old q = refl
among_all (x ∷ more) old q = by (bytes_eq q x) (has_name more q) (has_name old q)
  where
    by : (a b c : Bool) → (a || b) || (a || c) ≡ (a || b) || c
    by true b c = refl
    by false b c = refl

-- All names are added to those in which the first was added.
pub same_all : (names old mid new : List (List ℕ)) → HasSameNames (first_alone names ++ old) mid → HasSameNames (names ++ mid) new → HasSameNames (names ++ old) new
same_all names old mid new h k =
    λ q. has_joined names old q ∙ sym (among_all names old q) ∙ ap (λ b. has_name names q || b) (h q) ∙ sym (has_joined names mid q) ∙ k q

same_first : (names firsts old mid : List (List ℕ)) → firsts ≡ first_alone names → HasSameNames (firsts ++ old) mid → HasSameNames (first_alone names ++ old) mid
same_first names firsts old mid at h = λ q. ap (λ l. has_name (l ++ old) q) (sym at) ∙ h q

pub asked_no : (own : Option (List ℕ)) (names firsts old mid : List (List ℕ)) (cases : Cases) (b : Bool) → firsts ≡ first_alone names → HasSameNames (firsts ++ old) mid → b ≡ resumable_in own mid cases → b ≡ false
    → (rest : Script) → resumable_in own (first_alone names ++ old) cases && resumable own (names ++ old) rest ≡ false
asked_no own names firsts old mid cases b at h is e rest =
    ap (λ x. x && resumable own (names ++ old) rest) (cases_same own (first_alone names ++ old) mid (same_first names firsts old mid at h) cases ∙ sym is ∙ e)

pub asked_yes : (own : Option (List ℕ)) (names firsts old mid later new : List (List ℕ)) (cases : Cases) (b : Bool) → firsts ≡ first_alone names → HasSameNames (firsts ++ old) mid → b ≡ resumable_in own mid cases → b ≡ true
    → later ≡ mid → HasSameNames (names ++ later) new
    → (rest : Script) → resumable_in own (first_alone names ++ old) cases && resumable own (names ++ old) rest ≡ resumable own new rest
asked_yes own names firsts old mid later new cases b at found is e same added rest =
    let h = same_first names firsts old mid at found in
    ap (λ x. x && resumable own (names ++ old) rest) (cases_same own (first_alone names ++ old) mid h cases ∙ sym is ∙ e)
    ∙ script_same own (names ++ old) new (same_all names old later new (λ q. h q ∙ ap (λ t. has_name t q) (sym same)) added) rest

-- ---- a statement, and a check

pub simple_yes : (own : Option (List ℕ)) (old new : List (List ℕ)) (u said : Uses) (listed : List (List ℕ)) (b : Bool) → b ≡ may_use own old said → b ≡ true → listed ≡ said.tests → said ≡ u
    → HasSameNames (listed ++ old) new
    → (rest : Script) → may_use own old u && resumable own (u.tests ++ old) rest ≡ resumable own new rest
simple_yes own old new u said listed b is e seen same added rest =
    ap (λ x. x && resumable own (u.tests ++ old) rest) (sym (ap (may_use own old) same) ∙ sym is ∙ e)
    ∙ ap (λ l. resumable own (l ++ old) rest) (sym (seen ∙ ap (λ x. x.tests) same)) ∙ script_same own (listed ++ old) new added rest

pub check_yes : (own : Option (List ℕ)) (old mid new : List (List ℕ)) (message parts : List Part) (name : List ℕ) (commands : Script) (b kept : Bool) → b ≡ reads_text old parts → parts ≡ message → b ≡ true
    → kept ≡ resumable (Some name) old commands → kept ≡ true → mid ≡ old → HasSameNames (name ∷ mid) new
    → (rest : Script) → reads_text old message && (resumable (Some name) old commands && resumable own (name ∷ old) rest) ≡ resumable own new rest
check_yes own old mid new message parts name commands b kept is seen e holds f same added rest =
    let more = resumable own (name ∷ old) rest in
    ap (λ x. x && (resumable (Some name) old commands && more)) (ap (reads_text old) (sym seen) ∙ sym is ∙ e)
    ∙ ap (λ x. x && more) (sym holds ∙ f)
    ∙ ap (λ t. resumable own (name ∷ t) rest) (sym same) ∙ script_same own (name ∷ mid) new added rest
