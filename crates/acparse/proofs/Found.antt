-- The statements that are read are those of the source.
use Rattle.std.proofs.Common.{◌≡◌, ℕ, zero, suc, Bool, true, false, List, [], ◌∷◌, drop, Option, Some, None, Result, Ok, Err, refl, subst}
use Rattle.m4quote.specs.ItemValue.{Span, ItemValue, call, bare}
use Rattle.m4quote.specs.declared.fault.QuoteFault.{QuoteFault}
use Rattle.ac_statement.specs.declared.placement.LineStart.{LineStart}
use Rattle.ac_statement.specs.Idle.{is_idle}
use Rattle.ac_statement.specs.Reading.{quoted}
use Rattle.ac_statement.specs.Stand.{line_start_of, no_line_start}
use Rattle.ac_statement.proofs.Binds.{bind_ok, ok_is, wants_ok}
use Rattle.ac_macros.specs.declared.macros.Macro.{Macro}
use Rattle.ac_macros.specs.declared.macros.ChoiceMacro.{ChoiceMacro}
use Rattle.ac_macros.specs.declared.macros.Macro.TheVariants.{Plain, Choice as A_choice, Question as A_question, Check as A_check}
use Rattle.ac_macros.specs.declared.macros.Named.{Named}
use Rattle.ac_macros.specs.declared.macros.Named.TheVariants.{Statement, Argument}
use Rattle.ac_macros.specs.declared.macros.QuestionMacro.{QuestionMacro}
use Rattle.ac_macros.specs.Checks.{completed_of}
use Rattle.ac_macros.specs.Placement.{as_statement}
use Rattle.ac_macros.specs.ListKind.{ListKind, Commands, of_case}
use Rattle.ac_macros.specs.Table.{row_named}
use Rattle.ac_macros.specs.declared.table.Row.{Row}
use Rattle.ac_tree.specs.declared.tree.When.{When}
use Rattle.ac_tree.specs.declared.tree.When.TheVariants.{Yes, No, Always}
use Rattle.ac_tree.specs.declared.declarations.Declarations as declarations
use Rattle.ac_tree.specs.declared.declarations.Stage.{Stage}
use Rattle.ac_tree.specs.declared.declarations.Stage.TheVariants.{Before, Open, Ended}
use Rattle.m4quote.specs.Scan.{outcome, bare_value_of}
use Rattle.m4quote.proofs.Laws.{outcome_is_spelling, bare_value_is_value}
use Rattle.shell_bare.proofs.Laws.{read-text}
use Rattle.shell_bare.specs.Reading.{statements_of}
use Rattle.shell_bare.specs.declared.fault.BareFault.{BareFault}
use Rattle.ac_statement.specs.declared.fault.ParseFault.{ParseFault}
use Rattle.ac_args.specs.Arguments.{cache_name, is_given}
use Rattle.ac_args.specs.Shell.{here_text}
use Rattle.ac_statement.specs.Texts.{arg_at}
use Rattle.shell_bare.specs.declared.assignments.Assignment.{Assignment}
use Rattle.ac_tree.specs.Lists.{after, after_all, after_cases}
use Rattle.ac_tree.specs.Script.{Script, Done, Cases, No_case}
use Rattle.acparse.specs.Asked.{asked_with}
use Rattle.acparse.specs.Bare.{bare_at, assigned, may_assign, of_value, assigned_in, idle_or, bare_of}
use Rattle.acparse.specs.Profile.{action_in, asked_of, action_args, Bodies, body_of, items_of, item_of, call_of, checked, known, case_args, case_if, cases_in, choice_of, check_of}
use Rattle.acparse.specs.Statements.{Within, MayStand, IsBare, before, ended, assignments, AreCases, no_more, default, pair, IsAction, absent, there, IsItem, bare_text, plain_call, choice, question, check, AreStatements, none, one, IsBody}

-- The statements that are read from each statement argument are its own.
abbrev pub Reads : Bodies → Within → Type 0
Reads bodies Inside = (c : declarations.Declarations) (arg : Span) (s : Script) → bodies c arg ≡ Ok s → Inside c arg s

pub quoted_ok : {A : Type 0} (r : Result A QuoteFault) (x : A) → quoted r ≡ Ok x → r ≡ Ok x
quoted_ok (Ok y) x e = cc
quoted_ok (Err f) x e = absurd cc

pub known_some : (at : ℕ) (o : Option Row) (m : Row) → known at o ≡ Ok m → o ≡ Some m
known_some at None m e = absurd cc
known_some at (Some k) m e = cc

pub is_of_statement : (stage : Stage) (at : ℕ) (named : Named) (m : Macro) → as_statement stage at named ≡ Ok m → named ≡ Statement m
is_of_statement stage at (Statement k) m e = cc
is_of_statement stage at (Argument k) m e = absurd cc

pub may_stand : (list_kind : ListKind) (stage : Stage) (line_start : LineStart) (name : List ℕ) (args : List Span) (at : ℕ) (next : List ItemValue) (m : Macro)
    → checked list_kind stage line_start name args at next ≡ Ok m → MayStand list_kind stage line_start name args at next m
unfolding checked
may_stand list_kind stage line_start name args at next m e =
    let k = bind_ok _ _ _ e in
    let n = bind_ok _ _ _ k.2 in
    let s = bind_ok _ _ _ n.2 in
    let p = bind_ok _ _ _ s.2 in
    let q = bind_ok _ _ _ p.2 in
    let h = bind_ok _ _ _ q.2 in
    subst (MayStand list_kind stage line_start name args at next) (ok_is s.0 m h.2)
    (record {
      row = k.0;
      known = known_some at (row_named name) k.0 k.1;
      named = is_of_statement stage at k.0.named s.0 s.1;
      taken = wants_ok _ _ _ n.1;
      in_place = p.1;
      parted = wants_ok _ _ _ q.1;
      held = h.1;
    })

bare_at_ok : {A : Type 0} (at : ℕ) (r : Result A BareFault) (x : A) → bare_at at r ≡ Ok x → r ≡ Ok x
bare_at_ok at (Ok y) x e = cc
bare_at_ok at (Err f) x e = absurd cc

value_found : (list_kind : ListKind) (at : ℕ) (text : List ℕ) (r : Result (List ℕ) QuoteFault) (list : List Assignment) → bare_value_of text ≡ r → of_value at r ≡ Ok list → may_assign list_kind list ≡ Ok tt → IsBare list_kind Open text (assigned list)
value_found list_kind at text (Ok value) list is e may = assignments ((bare_value_is_value text value).0 is) (read-text value list (bare_at_ok at (statements_of value) list e)) may
value_found list_kind at text (Err f) list is e may = absurd cc

assigned_found : (list_kind : ListKind) (at : ℕ) (text : List ℕ) (s : Script) → assigned_in list_kind at text ≡ Ok s → IsBare list_kind Open text s
unfolding assigned_in
assigned_found list_kind at text s e =
    let l = bind_ok (of_value at (bare_value_of text)) _ s e in
    let m = bind_ok (may_assign list_kind l.0) _ s l.2 in
    subst (IsBare list_kind Open text) (ok_is _ s m.2) (value_found list_kind at text (bare_value_of text) l.0 refl l.1 m.1)

idle_found : (list_kind : ListKind) (stage : Stage) (text : List ℕ) (f : ParseFault) (s : Script) (b : Bool) → (is_idle text ≡ true → IsBare list_kind stage text Done) → is_idle text ≡ b → idle_or b f ≡ Ok s → IsBare list_kind stage text s
idle_found list_kind stage text f s true h is e = subst (IsBare list_kind stage text) (ok_is Done s e) (h is)
idle_found list_kind stage text f s false h is e = absurd cc

bare_found : (list_kind : ListKind) (stage : Stage) (at : ℕ) (text : List ℕ) (s : Script) → bare_of list_kind stage at text ≡ Ok s → IsBare list_kind stage text s
unfolding bare_of
bare_found list_kind Before at text s e = idle_found list_kind Before text _ s (is_idle text) before refl e
bare_found list_kind Open at text s e = assigned_found list_kind at text s e
bare_found list_kind Ended at text s e = idle_found list_kind Ended text _ s (is_idle text) ended refl e

pub cases_found : (bodies : Bodies) (Inside : Within) (ok : Reads bodies Inside) (m : ChoiceMacro) (args : List Span) (c : declarations.Declarations) (cases : Cases) → cases_in bodies m c args ≡ Ok cases → AreCases Inside m c args cases
unfolding cases_in
cases_found bodies Inside ok m [] c cases e = subst (AreCases Inside m c []) (ok_is No_case cases e) no_more
cases_found bodies Inside ok m (b ∷ []) c cases e =
    let x = bind_ok (bodies c b) (λ body. Ok (case_if Always (is_given b) body)) cases e in
    subst (AreCases Inside m c (b ∷ [])) (ok_is _ cases x.2) (default (ok c b x.0 x.1))
cases_found bodies Inside ok m (w ∷ a ∷ more) c cases e =
    let x = bind_ok _ _ _ e in
    let y = bind_ok _ _ _ x.2 in
    let z = bind_ok _ _ _ y.2 in
    subst (AreCases Inside m c (w ∷ a ∷ more)) (ok_is _ cases z.2)
    (pair x.1 (ok c a y.0 y.1) (cases_found bodies Inside ok m more (after_all c y.0) z.0 z.1))

pub action_found : (bodies : Bodies) (Inside : Within) (ok : Reads bodies Inside) (when : When) (args : List Span) (c : declarations.Declarations) (cases : Cases) → action_in bodies when c args ≡ Ok cases → IsAction Inside when c args cases
unfolding action_in
action_found bodies Inside ok when [] c cases e = subst (IsAction Inside when c []) (ok_is No_case cases e) absent
action_found bodies Inside ok when (a ∷ more) c cases e =
    let x = bind_ok (bodies c a) (λ body. Ok (case_if when (is_given a) body)) cases e in
    subst (IsAction Inside when c (a ∷ more)) (ok_is _ cases x.2) (there (ok c a x.0 x.1))

pub item_found : (list_kind : ListKind) (bodies : ListKind → Bodies) (Inside : ListKind → Within) (ok : (x : ListKind) → Reads (bodies x) (Inside x)) (c : declarations.Declarations) (line_start : LineStart) (item : ItemValue) (next : List ItemValue) (s : Script)
    → item_of list_kind bodies c line_start item next ≡ Ok s → IsItem list_kind Inside c line_start item next s
unfolding choice_of asked_of asked_with check_of
item_found list_kind bodies Inside ok c line_start (bare text at) next s e = bare_text (bare_found list_kind c.stage at text s e)
item_found list_kind bodies Inside ok c line_start (call name args at) next s e =
    let m = bind_ok _ _ _ e in call_found m.0 (may_stand list_kind c.stage line_start name args at next m.0 m.1) m.2
  where
    choice_found : (m : ChoiceMacro) → MayStand list_kind c.stage line_start name args at next (A_choice m) → choice_of (bodies (of_case list_kind)) m c args ≡ Ok s → IsItem list_kind Inside c line_start (call name args at) next s
    choice_found m stands e =
        let x = bind_ok _ _ _ e in
        let y = bind_ok _ _ _ x.2 in
        subst (IsItem list_kind Inside c line_start (call name args at) next) (ok_is _ s y.2) (choice stands x.1 (cases_found (bodies (of_case list_kind)) (Inside (of_case list_kind)) (ok (of_case list_kind)) m (case_args m args) c y.0 y.1))

    question_found : (m : QuestionMacro) → MayStand list_kind c.stage line_start name args at next (A_question m) → asked_of (bodies (of_case list_kind)) m c args ≡ Ok s → IsItem list_kind Inside c line_start (call name args at) next s
    question_found m stands e =
        let x = bind_ok _ _ _ e in
        let y = bind_ok _ _ _ x.2 in
        let z = bind_ok _ _ _ y.2 in
        let w = bind_ok (completed_of x.0.1 args) _ _ z.2 in
        subst (IsItem list_kind Inside c line_start (call name args at) next) (ok_is _ s w.2)
        (question stands x.1 (action_found (bodies (of_case list_kind)) (Inside (of_case list_kind)) (ok (of_case list_kind)) Yes (action_args m args) (after c x.0.0) y.0 y.1)
        (action_found (bodies (of_case list_kind)) (Inside (of_case list_kind)) (ok (of_case list_kind)) No (drop 1 (action_args m args)) (after_cases (after c x.0.0) y.0) z.0 z.1) w.1)

    check_found : MayStand list_kind c.stage line_start name args at next A_check → check_of bodies c args ≡ Ok s → IsItem list_kind Inside c line_start (call name args at) next s
    check_found stands e =
        let x = bind_ok (here_text (arg_at args 0)) _ _ e in
        let y = bind_ok (cache_name (arg_at args 1)) _ _ x.2 in
        let z = bind_ok (bodies (Commands y.0 (arg_at args 2).at) c (arg_at args 2)) _ _ y.2 in
        subst (IsItem list_kind Inside c line_start (call name args at) next) (ok_is _ s z.2) (check stands x.1 y.1 (ok (Commands y.0 (arg_at args 2).at) c (arg_at args 2) z.0 z.1))

    call_found : (m : Macro) → MayStand list_kind c.stage line_start name args at next m → call_of list_kind bodies c m at args ≡ Ok s → IsItem list_kind Inside c line_start (call name args at) next s
    call_found (Plain m) stands e =
        let p = bind_ok _ _ _ e in
        subst (IsItem list_kind Inside c line_start (call name args at) next) (ok_is _ s p.2) (plain_call stands p.1)
    call_found (A_choice m) stands e = choice_found m stands e
    call_found (A_question m) stands e = question_found m stands e
    call_found A_check stands e = check_found stands e

pub items_found : (list_kind : ListKind) (bodies : ListKind → Bodies) (Inside : ListKind → Within) (ok : (x : ListKind) → Reads (bodies x) (Inside x)) (items : List ItemValue) (c : declarations.Declarations) (line_start : LineStart) (s : Script)
    → items_of list_kind bodies c line_start items ≡ Ok s → AreStatements list_kind Inside c line_start items s
unfolding items_of
items_found list_kind bodies Inside ok [] c line_start s e = subst (AreStatements list_kind Inside c line_start []) (ok_is Done s e) none
items_found list_kind bodies Inside ok (item ∷ items) c line_start s e =
    let f = bind_ok _ _ _ e in
    let r = bind_ok _ _ _ f.2 in
    subst (AreStatements list_kind Inside c line_start (item ∷ items)) (ok_is _ s r.2)
    (one (item_found list_kind bodies Inside ok c line_start item items f.0 f.1) (items_found list_kind bodies Inside ok items (after_all c f.0) (line_start_of item) r.0 r.1))

-- The statements that are read from a statement argument are its own.
pub body_found : (room : ℕ) (list_kind : ListKind) → Reads (body_of room list_kind) (IsBody room list_kind)
unfolding body_of
body_found zero list_kind c arg s e = absurd cc
body_found (suc room) list_kind c arg s e =
    let a = bind_ok _ _ _ e in
    let i = bind_ok _ _ _ a.2 in (
      a.0,
      a.1,
      (
        i.0,
        (outcome_is_spelling a.0.at a.0.text i.0).0 (quoted_ok (outcome a.0.at a.0.text) i.0 i.1),
        items_found list_kind (body_of room) (IsBody room) (body_found room) i.0 c no_line_start s i.2,
      ),
    )
