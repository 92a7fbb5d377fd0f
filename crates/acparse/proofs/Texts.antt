-- Assignments as statements, and the readings of bare text.
use Rattle.std.proofs.Common.{◌≡◌, ℕ, Bool, true, false, cond, List, [], ◌∷◌, ◌++◌, length, Result, Ok, Err, refl, ap, sym, ◌∙◌}
use Rattle.std.specs.Prelude.{◌==◌}
use Rattle.shell_bare.specs.declared.assignments.Assignment.{Assignment}
use Rattle.ac_statement.specs.declared.fault.ParseFault.{ParseFault}
use Rattle.ac_statement.specs.declared.fault.ParseFault.TheVariants.{OutOfMemory}
use Rattle.ac_statement.specs.Idle.{is_idle}
use Rattle.ac_statement.specs.Reading.{Fails, Gives}
use Rattle.ac_statement.proofs.Binds.{bind_ok, ok_is, fails_bind}
use Rattle.ac_tree.specs.declared.declarations.Declarations as declarations
use Rattle.ac_tree.specs.declared.declarations.Stage.{Stage}
use Rattle.ac_tree.specs.declared.declarations.Stage.TheVariants.{Before, Open, Ended}
use Rattle.ac_tree.specs.declared.statement.Declares.TheVariants.{Nothing}
use Rattle.ac_tree.specs.declared.statement.Effect.TheVariants.{Assign}
use Rattle.ac_tree.specs.Lists.{after}
use Rattle.ac_macros.specs.Placement.{bare_fault}
use Rattle.ac_macros.specs.ListKind.{ListKind}
use Rattle.m4quote.specs.Scan.{bare_value_of}
use Rattle.ac_tree.specs.declared.tree.Stmt.{Stmt}
use Rattle.ac_tree.specs.declared.tree.Stmt.TheVariants.{Do, Choose', CacheCheck'}
use Rattle.ac_tree.specs.declared.tree.When.{When}
use Rattle.ac_tree.specs.Lists.{after_all}
use Rattle.ac_tree.specs.Script.{Script, Done, Then, Cases, No_case, Case, joined, stmt_then, script_of}
use Rattle.ac_tree.proofs.ScriptLemmas.{script_push, joined_assoc, joined_done}
use Rattle.acparse.specs.Bare.{assigned, may_assign, of_value, assigned_in, idle_or, bare_of}
use Rattle.acparse.specs.Profile.{following, is_done, case_if}

assigned_push : (list : List Assignment) (a : Assignment) → assigned (list ++ a ∷ []) ≡ joined (assigned list) (Then Nothing (Assign a.name a.value) Done)
assigned_push [] a = refl
assigned_push (b ∷ list) a = ap (Then Nothing (Assign b.name b.value)) (assigned_push list a)

-- One assignment is appended.
pub assign_more : (before : Script) (out out' : List Stmt) (seen : List Assignment) (a : Assignment) → out' ≡ out ++ Do Nothing (Assign a.name a.value) ∷ [] → script_of out ≡ joined before (assigned seen)
    → script_of out' ≡ joined before (assigned (seen ++ a ∷ []))
assign_more before out out' seen a e h =
    ap script_of e ∙ script_push out (Do Nothing (Assign a.name a.value))
    ∙ ap (λ s. joined s (Then Nothing (Assign a.name a.value) Done)) h
    ∙ joined_assoc before (assigned seen) (Then Nothing (Assign a.name a.value) Done)
    ∙ ap (joined before) (sym (assigned_push seen a))

-- Text without effect, if no statement is allowed.
pub idle_adds : (list_kind : ListKind) (at : ℕ) (text : List ℕ) (out : Script) (stage : Stage) (r : Result (Unit {0}) ParseFault) → (stage ≡ Open → ⊥) → Gives (λ _. Done) r (idle_or (is_idle text) (bare_fault stage at))
    → Gives (λ _. out) r (following out (bare_of list_kind stage at text))
unfolding bare_of
idle_adds list_kind at text out Open r n h = absurd (n refl)
idle_adds list_kind at text out Before (Ok x) n h = ap (following out) h ∙ ap (λ (s : Script). Ok s) (joined_done out)
idle_adds list_kind at text out Before (Err f) n h = fails_bind f _ _ h
idle_adds list_kind at text out Ended (Ok x) n h = ap (following out) h ∙ ap (λ (s : Script). Ok s) (joined_done out)
idle_adds list_kind at text out Ended (Err f) n h = fails_bind f _ _ h

pub before_open : (stage : Stage) → stage ≡ Before → stage ≡ Open → ⊥
before_open stage e f = cc

pub ended_open : (stage : Stage) → stage ≡ Ended → stage ≡ Open → ⊥
ended_open stage e f = cc

-- ---- defaults, and declarations

-- Assignments declare nothing.
pub assigned_known : (list : List Assignment) (c : declarations.Declarations) → after_all c (assigned list) ≡ c
unfolding after
assigned_known [] c = refl
assigned_known (a ∷ more) c = assigned_known more c

value_known : (c : declarations.Declarations) (list_kind : ListKind) (at : ℕ) (text : List ℕ) (s : Script) → assigned_in list_kind at text ≡ Ok s → after_all c s ≡ c
unfolding assigned_in
value_known c list_kind at text s e =
    let l = bind_ok (of_value at (bare_value_of text)) _ s e in
    let m = bind_ok (may_assign list_kind l.0) _ s l.2 in
    ap (after_all c) (sym (ok_is _ s m.2)) ∙ assigned_known l.0 c

idle_known : (c : declarations.Declarations) (b : Bool) (f : ParseFault) (s : Script) → idle_or b f ≡ Ok s → after_all c s ≡ c
idle_known c true f s e = ap (after_all c) (sym (ok_is Done s e))
idle_known c false f s e = absurd cc

-- Bare text declares nothing.
pub bare_known : (c : declarations.Declarations) (list_kind : ListKind) (stage : Stage) (at : ℕ) (text : List ℕ) (s : Script) → bare_of list_kind stage at text ≡ Ok s → after_all c s ≡ c
unfolding bare_of
bare_known c list_kind Before at text s e = idle_known c (is_idle text) _ s e
bare_known c list_kind Open at text s e = value_known c list_kind at text s e
bare_known c list_kind Ended at text s e = idle_known c (is_idle text) _ s e

failed : (out : Script) (r : Result Script ParseFault) (x : ParseFault) → following out r ≡ Err x → r ≡ Err x
failed out (Ok s) x h = absurd cc
failed out (Err f) x h = h

pub fails_inside : (x : ParseFault) (out : Script) (r : Result Script ParseFault) → Fails x (following out r) → Fails x r
fails_inside OutOfMemory out r h = tt
fails_inside x out r h = failed out r x h

-- ---- defaults

not_done : (s : Stmt) (rest : Script) → is_done (stmt_then s rest) ≡ false
not_done (Do d e) rest = refl
not_done (Choose' d subject m cases) rest = refl
not_done (CacheCheck' message name m commands) rest = refl

pub some_case : (when : When) (given : Bool) (body : List Stmt) → (length body == 0) ≡ false → case_if when given (script_of body) ≡ Case when (script_of body) No_case
some_case when given [] e = absurd cc
some_case when true (s ∷ body) e = refl
some_case when false (s ∷ body) e =
    let kept : Cases = Case when (script_of (s ∷ body)) No_case in
    ap (λ b. cond b No_case kept) (not_done s (script_of body))
