-- The commands of each AC_CACHE_CHECK set its name alone.
use Rattle.std.proofs.Common.{◌≡◌, ℕ, zero, suc, Bool, true, false, ◌&&◌, List, [], ◌∷◌, Result, Ok, Err, refl, subst}
use Rattle.std.specs.Prelude.{IfOk}
use Rattle.std.specs.Str.{bytes_eq}
use Rattle.std.proofs.lemmas.Slice.Eq.{bytes_eq-Decides}
use Rattle.shellword.specs.declared.part.Part.{Part}
use Rattle.shell_bare.specs.declared.assignments.Assignment.{Assignment}
use Rattle.m4quote.specs.ItemValue.{Span}
use Rattle.m4quote.specs.ItemValue as items
use Rattle.deftable.specs.CacheName.{is_cache_name}
use Rattle.ac_statement.specs.declared.fault.ParseFault.{ParseFault}
use Rattle.ac_statement.specs.declared.placement.LineStart.{LineStart}
use Rattle.ac_statement.specs.Reading.{Gives}
use Rattle.ac_statement.specs.Texts.{arg_at}
use Rattle.ac_statement.proofs.Binds.{bind_ok, ok_is, wants_ok}
use Rattle.ac_args.specs.Arguments.{name, cache_name, is_given}
use Rattle.ac_args.specs.Shell.{word}
use Rattle.ac_macros.specs.declared.macros.ChoiceMacro.{ChoiceMacro}
use Rattle.ac_macros.specs.declared.macros.ChoiceMacro.TheVariants.{If, Case as As_case}
use Rattle.ac_macros.specs.declared.macros.Macro.TheVariants.{Plain as A_plain, Question as A_question, Check as A_check}
use Rattle.ac_macros.specs.declared.macros.PlainMacro.{PlainMacro}
use Rattle.ac_macros.specs.declared.macros.QuestionMacro.{QuestionMacro}
use Rattle.ac_macros.specs.declared.macros.QuestionMacro.TheVariants.{Tries}
use Rattle.ac_macros.specs.Checks.{completed_of}
use Rattle.ac_macros.specs.Rows.{question_of, undeclared}
use Rattle.ac_macros.specs.ListKind.{ListKind, Top, Nested, Commands, of_case, may_hold}
use Rattle.ac_macros.specs.Tries.{tries, tried_program}
use Rattle.ac_tree.specs.declared.declarations.Declarations as declarations
use Rattle.ac_tree.specs.declared.declarations.Stage.{Stage}
use Rattle.ac_tree.specs.declared.statement.Declares.{Declares}
use Rattle.ac_tree.specs.declared.statement.Declares.TheVariants as declares
use Rattle.ac_tree.specs.declared.statement.Effect.{Effect}
use Rattle.ac_tree.specs.declared.statement.Question as question_of_tree
use Rattle.ac_tree.specs.declared.statement.Question.TheVariants as asks
use Rattle.ac_tree.specs.declared.tree.Stmt.{Stmt}
use Rattle.ac_tree.specs.declared.tree.Subject.{Subject}
use Rattle.ac_tree.specs.declared.tree.Subject.TheVariants.{Nothing, Word, Asked}
use Rattle.ac_tree.specs.declared.tree.When.{When}
use Rattle.ac_tree.specs.declared.tree.When.TheVariants.{Always}
use Rattle.ac_tree.specs.Commands.{DeclaresNothing, TriesAlone, AreCommands, AreCommandsIn, HasCommands, HasCommandsIn}
use Rattle.ac_tree.specs.Script.{Script, Done, Then, Choice, Check, Cases, No_case, Case, joined, followed, script_of}
use Rattle.acparse.specs.Asked.{asked_by}
use Rattle.acparse.specs.Bare.{assigned, may_assign, set_alone}
use Rattle.acparse.specs.Profile.{source_of, subject_of, case_if}
use Rattle.acparse.specs.Source.{IsSource}
use Rattle.acparse.specs.Statements.{Within, IsBare, before, ended, assignments, AreCases, no_more, default, pair, IsAction, absent, there, IsItem, bare_text, plain_call, choice, question, check, AreStatements, none, one, IsBody}
use Rattle.acparse.proofs.Questions.{asked_one}
use Rattle.acparse.proofs.Whole.{source_found}

-- The statements of the list: commands, or statements with commands in them.
abbrev Held : ListKind → Script → Type 0
Held Top s = HasCommands s
Held Nested s = HasCommands s
Held (Commands n at) s = AreCommands n s

abbrev HeldIn : ListKind → Cases → Type 0
HeldIn Top cases = HasCommandsIn cases
HeldIn Nested cases = HasCommandsIn cases
HeldIn (Commands n at) cases = AreCommandsIn n cases

-- Each statement argument of the list has such statements.
abbrev Holds : ListKind → Within → Type 0
Holds list_kind Inside = (c : declarations.Declarations) (arg : Span) (s : Script) → Inside c arg s → Held list_kind s

-- ---- one list after another

commands_joined : (n : List ℕ) (a b : Script) → AreCommands n a → AreCommands n b → AreCommands n (joined a b)
commands_joined n Done b h k = k
commands_joined n (Then d e rest) b h k = (h.0, (h.1.0, commands_joined n rest b h.1.1 k))
commands_joined n (Choice d subject cases rest) b h k = (h.0, (h.1.0, (h.1.1.0, commands_joined n rest b h.1.1.1 k)))
commands_joined n (Check message other commands rest) b h k = absurd h

has_joined : (a b : Script) → HasCommands a → HasCommands b → HasCommands (joined a b)
has_joined Done b h k = k
has_joined (Then d e rest) b h k = has_joined rest b h k
has_joined (Choice d subject cases rest) b h k = (h.0, has_joined rest b h.1 k)
has_joined (Check message n commands rest) b h k = (h.0, (h.1.0, has_joined rest b h.1.1 k))

held_joined : (list_kind : ListKind) (a b : Script) → Held list_kind a → Held list_kind b → Held list_kind (joined a b)
held_joined Top a b h k = has_joined a b h k
held_joined Nested a b h k = has_joined a b h k
held_joined (Commands n at) a b h k = commands_joined n a b h k

commands_followed : (n : List ℕ) (a b : Cases) → AreCommandsIn n a → AreCommandsIn n b → AreCommandsIn n (followed a b)
commands_followed n No_case b h k = k
commands_followed n (Case when body more) b h k = (h.0, commands_followed n more b h.1 k)

has_followed : (a b : Cases) → HasCommandsIn a → HasCommandsIn b → HasCommandsIn (followed a b)
has_followed No_case b h k = k
has_followed (Case when body more) b h k = (h.0, has_followed more b h.1 k)

held_followed : (list_kind : ListKind) (a b : Cases) → HeldIn list_kind a → HeldIn list_kind b → HeldIn list_kind (followed a b)
held_followed Top a b h k = has_followed a b h k
held_followed Nested a b h k = has_followed a b h k
held_followed (Commands n at) a b h k = commands_followed n a b h k

-- ---- text

both_true : (a b : Bool) → (a && b) ≡ true → (a ≡ true) × (b ≡ true)
both_true true b e = (refl, e)
both_true false b e = absurd cc

commands_assigned : (n : List ℕ) (list : List Assignment) → set_alone n list ≡ true → AreCommands n (assigned list)
commands_assigned n [] e = tt
commands_assigned n (a ∷ more) e =
    let p = both_true (bytes_eq a.name n) (set_alone n more) e in (tt, ((bytes_eq-Decides a.name n).0 p.0, commands_assigned n more p.1))

has_assigned : (list : List Assignment) → HasCommands (assigned list)
has_assigned [] = tt
has_assigned (a ∷ more) = has_assigned more

held_assigned : (list_kind : ListKind) (list : List Assignment) → may_assign list_kind list ≡ Ok tt → Held list_kind (assigned list)
unfolding may_assign
held_assigned Top list e = has_assigned list
held_assigned Nested list e = has_assigned list
held_assigned (Commands n at) list e = commands_assigned n list (wants_ok (set_alone n list) _ _ e)

held_done : (list_kind : ListKind) → Held list_kind Done
held_done Top = tt
held_done Nested = tt
held_done (Commands n at) = tt

bare_held : {stage : Stage} {text : List ℕ} {s : Script} (list_kind : ListKind) → IsBare list_kind stage text s → Held list_kind s
bare_held list_kind (before is) = held_done list_kind
bare_held list_kind (ended is) = held_done list_kind
bare_held list_kind (assignments {list = list} v l may) = held_assigned list_kind list may

-- ---- cases

held_case : (list_kind : ListKind) (when : When) (body : Script) (more : Cases) → Held list_kind body → HeldIn list_kind more → HeldIn list_kind (Case when body more)
held_case Top when body more h k = (h, k)
held_case Nested when body more h k = (h, k)
held_case (Commands n at) when body more h k = (h, k)

held_no_case : (list_kind : ListKind) → HeldIn list_kind No_case
held_no_case Top = tt
held_no_case Nested = tt
held_no_case (Commands n at) = tt

held_if : (list_kind : ListKind) (when : When) (given : Bool) (body : Script) → Held list_kind body → HeldIn list_kind (case_if when given body)
held_if list_kind when true body h = held_case list_kind when body No_case h (held_no_case list_kind)
held_if list_kind when false Done h = held_no_case list_kind
held_if list_kind when false (Then d e rest) h = held_case list_kind when (Then d e rest) No_case h (held_no_case list_kind)
held_if list_kind when false (Choice d subject cases rest) h = held_case list_kind when (Choice d subject cases rest) No_case h (held_no_case list_kind)
held_if list_kind when false (Check message n commands rest) h = held_case list_kind when (Check message n commands rest) No_case h (held_no_case list_kind)

cases_held : (list_kind : ListKind) (Inside : Within) (holds : Holds list_kind Inside) (m : ChoiceMacro) {c : declarations.Declarations} {args : List Span} {cases : Cases} → AreCases Inside m c args cases → HeldIn list_kind cases
cases_held list_kind Inside holds m no_more = held_no_case list_kind
cases_held list_kind Inside holds m (default {c = c} {arg = arg} {body = body} i) = held_if list_kind Always (is_given arg) body (holds c arg body i)
cases_held list_kind Inside holds m (pair {when = when} {body = body} {others = others} w i more) = held_case list_kind when body others (holds _ _ _ i) (cases_held list_kind Inside holds m more)

action_held : (list_kind : ListKind) (Inside : Within) (holds : Holds list_kind Inside) (when : When) {c : declarations.Declarations} {args : List Span} {cases : Cases} → IsAction Inside when c args cases → HeldIn list_kind cases
action_held list_kind Inside holds when absent = held_no_case list_kind
action_held list_kind Inside holds when (there {c = c} {arg = arg} {body = body} i) = held_if list_kind when (is_given arg) body (holds c arg body i)

-- ---- calls

-- The statements of a case are those of its list.
of_case_held : (list_kind : ListKind) (s : Script) → Held (of_case list_kind) s → Held list_kind s
of_case_held Top s h = h
of_case_held Nested s h = h
of_case_held (Commands n at) s h = h

plain_held : (list_kind : ListKind) (m : PlainMacro) (d : Declares) (e : Effect) → may_hold list_kind (A_plain m) ≡ Ok tt → Held list_kind (Then d e Done)
unfolding may_hold
plain_held Top m d e h = tt
plain_held Nested m d e h = tt
plain_held (Commands n at) m d e h = absurd cc

subject_tries : (m : ChoiceMacro) (args : List Span) (subject : Subject) → subject_of m args ≡ Ok subject → TriesAlone subject
unfolding subject_of
subject_tries If args subject e = subst TriesAlone (ok_is Nothing subject e) tt
subject_tries As_case args subject e =
    let w = bind_ok (word (arg_at args 0)) _ _ e in
    subst TriesAlone (ok_is (Word w.0) subject w.2) tt

held_choice : (list_kind : ListKind) (subject : Subject) (cases : Cases) → TriesAlone subject → HeldIn list_kind cases → Held list_kind (Choice declares.Nothing subject cases Done)
held_choice Top subject cases t h = (h, tt)
held_choice Nested subject cases t h = (h, tt)
held_choice (Commands n at) subject cases t h = (tt, (t, (h, tt)))

tried : (c : declarations.Declarations) (m : QuestionMacro) (args : List Span) (d : Declares) (q : question_of_tree.Question) (n : List ℕ) (at : ℕ) → may_hold (Commands n at) (A_question m) ≡ Ok tt → question_of c m args ≡ Ok (d, q)
    → DeclaresNothing d × TriesAlone (Asked q)
unfolding may_hold undeclared tries
tried c (Tries kind) args d q n at e f =
    let u = bind_ok (tries kind args) _ _ f in
    let p = bind_ok (tried_program (arg_at args 0)) _ _ u.1 in
    subst (λ (s : Declares × question_of_tree.Question). DeclaresNothing s.0 × TriesAlone (Asked s.1)) (ok_is _ (d, q) u.2) (tt, subst (λ (q : question_of_tree.Question). TriesAlone (Asked q)) (ok_is _ u.0 p.2) tt)
tried c m args d q n at e f = absurd cc

tried_whole : (q whole : question_of_tree.Question) (args : List Span) → TriesAlone (Asked q) → completed_of q args ≡ Ok whole → TriesAlone (Asked whole)
unfolding completed_of
tried_whole (asks.Tries kind program) whole args t e = subst (λ (q : question_of_tree.Question). TriesAlone (Asked q)) (ok_is _ whole e) tt
tried_whole q whole args t e = absurd t

commands_asked : (n : List ℕ) (d : Declares) (q : question_of_tree.Question) (cases : Cases) → DeclaresNothing d → TriesAlone (Asked q) → AreCommandsIn n cases → AreCommands n (asked_by d q cases)
commands_asked n d (asks.Tries kind program) cases e t h = (e, (t, (h, tt)))
commands_asked n d q cases e t h = absurd t

has_asked : (d : Declares) (q : question_of_tree.Question) (cases : Cases) → HasCommandsIn cases → HasCommands (asked_by d q cases)
has_asked d q cases h = asked_one (λ cases s. HasCommandsIn cases → HasCommands s) d q cases (λ listed entries includes h. tt) (λ q h. (h, tt)) h

held_question : (list_kind : ListKind) (c : declarations.Declarations) (m : QuestionMacro) (args : List Span) (d : Declares) (q whole : question_of_tree.Question) (cases : Cases) → may_hold list_kind (A_question m) ≡ Ok tt → question_of c m args ≡ Ok (d, q)
    → completed_of q args ≡ Ok whole → HeldIn list_kind cases → Held list_kind (asked_by d whole cases)
held_question Top c m args d q whole cases e f w h = has_asked d whole cases h
held_question Nested c m args d q whole cases e f w h = has_asked d whole cases h
held_question (Commands n at) c m args d q whole cases e f w h =
    let t = tried c m args d q n at e f in commands_asked n d whole cases t.0 (tried_whole q whole args t.1 w) h

named : (arg : Span) (n : List ℕ) → cache_name arg ≡ Ok n → is_cache_name n ≡ true
unfolding cache_name
named arg n e =
    let x = bind_ok (name arg) _ _ e in
    let y = bind_ok _ _ _ x.2 in
    subst (λ (n : List ℕ). is_cache_name n ≡ true) (ok_is x.0 n y.2) (wants_ok (is_cache_name x.0) _ _ y.1)

held_check : (list_kind : ListKind) (arg : Span) (message : List Part) (n : List ℕ) (at : ℕ) (commands : Script) → may_hold list_kind A_check ≡ Ok tt → cache_name arg ≡ Ok n → AreCommands n commands → Held list_kind (Check message n commands Done)
unfolding may_hold
held_check Top arg message n at commands e f h = (named arg n f, (h, tt))
held_check Nested arg message n at commands e f h = (named arg n f, (h, tt))
held_check (Commands other to) arg message n at commands e f h = absurd cc

-- ---- items

item_held : (list_kind : ListKind) (Inside : ListKind → Within) (holds : (x : ListKind) → Holds x (Inside x)) (c : declarations.Declarations) (line_start : LineStart) {item : items.ItemValue} {next : List items.ItemValue} {s : Script}
    → IsItem list_kind Inside c line_start item next s → Held list_kind s
item_held list_kind Inside holds c line_start (bare_text i) = bare_held list_kind i
item_held list_kind Inside holds c line_start (plain_call {m = m} {declares = d} {effect = e} stands p) = plain_held list_kind m d e stands.held
item_held list_kind Inside holds c line_start (choice {args = args} {m = m} {subject = subject} {cases = cases} stands p i) =
    held_choice list_kind subject cases (subject_tries m args subject p) (cases_held list_kind (Inside (of_case list_kind)) (λ c arg s x. of_case_held list_kind s (holds (of_case list_kind) c arg s x)) m i)
item_held list_kind Inside holds c line_start (question {args = args} {m = m} {declares = d} {q = q} {whole = whole} {first = first} {other = other} stands p f o w) =
    let inner : Holds list_kind (Inside (of_case list_kind)) = λ c arg s x. of_case_held list_kind s (holds (of_case list_kind) c arg s x) in
    held_question list_kind c m args d q whole (followed first other) stands.held p w
    (held_followed list_kind first other (action_held list_kind (Inside (of_case list_kind)) inner _ f) (action_held list_kind (Inside (of_case list_kind)) inner _ o))
item_held list_kind Inside holds c line_start (check {args = args} {message = message} {variable = variable} {commands = commands} stands m n i) =
    let at = (arg_at args 2).at in
    held_check list_kind (arg_at args 1) message variable at commands stands.held n (holds (Commands variable at) c (arg_at args 2) commands i)

items_held : (list_kind : ListKind) (Inside : ListKind → Within) (holds : (x : ListKind) → Holds x (Inside x)) {c : declarations.Declarations} {line_start : LineStart} {items : List items.ItemValue} {s : Script}
    → AreStatements list_kind Inside c line_start items s → Held list_kind s
items_held list_kind Inside holds none = held_done list_kind
items_held list_kind Inside holds (one {c = c} {first = first} {rest = rest} i more) = held_joined list_kind first rest (item_held list_kind Inside holds c _ i) (items_held list_kind Inside holds more)

body_held : (room : ℕ) (list_kind : ListKind) → Holds list_kind (IsBody room list_kind)
body_held zero list_kind c arg s i = absurd i
body_held (suc room) list_kind c arg s i = items_held list_kind (IsBody room) (body_held room) i.2.2

-- The commands in a source.
pub source_held : (text : List ℕ) (s : Script) → IsSource text s → HasCommands s
source_held text s is = items_held Top (IsBody 31) (body_held 31) is.list.statements

pub commands_held : (text : List ℕ) (r : Result (List Stmt) ParseFault) → Gives script_of r (source_of text) → IfOk r (λ s. HasCommands (script_of s))
commands_held text (Ok s) is = source_held text (script_of s) (source_found text (script_of s) is)
commands_held text (Err f) is = tt
